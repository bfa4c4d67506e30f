-- The marks are not seen: a run with marks, without them, is the unit's run, since the unit gets the call and nothing else.
use mathlib.Core.Path.{◌≡◌, refl}
use mathlib.Core.List.{List, [], ◌∷◌}
use Rattle.esc_unit.specs.Unit.{never_opened, call_of}
use Rattle.esc_unit.specs.declared.unit.Unit.{Unit}
use Rattle.booking.specs.Run.{feed, run}
use Rattle.attribution.specs.Marks.{Marked, MarkedHistory, calls_of, events_of, feed_marked, run_marked}
use Rattle.attribution.specs.Attributed.{Unseen}

feeds-unseen : (ms : List Marked) (u : Unit) (h : MarkedHistory) → events_of (feed_marked u h ms) ≡ (feed u (events_of h) (calls_of ms)).history
unfolding feed_marked feed
feeds-unseen [] u h = refl
feeds-unseen (m ∷ ms) u h =
    feeds-unseen ms (call_of u m.call.bytes m.call.room).unit
    (record { event = record { call = m.call; reply = (call_of u m.call.bytes m.call.room).reply }; origin = m.origin } ∷ h)

pub unseen : Unseen
unfolding run_marked run
unseen ms = feeds-unseen ms never_opened []
