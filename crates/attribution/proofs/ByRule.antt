-- A run with marks is the trace that the rule alone computes, since the unit's replies are the rule's.
use mathlib.Core.Path.{◌≡◌, refl, ◌∙◌, ap}
use mathlib.Core.List.{List, [], ◌∷◌}
use Rattle.base.specs.Reply.{Reply}
use Rattle.esc_unit.specs.Unit.{never_opened, call_of}
use Rattle.esc_answers.specs.declared.answer.Answer.{Answer}
use Rattle.esc_unit.specs.declared.unit.Unit.{Unit}
use Rattle.booking.specs.History.{since}
use Rattle.booking.specs.Rule.{rule_for}
use Rattle.booking.proofs.Traced.{Fits, called}
use Rattle.attribution.specs.Marks.{Marked, MarkedHistory, events_of, feed_marked, run_marked}

unfoldable pub trace_marked : MarkedHistory → List Marked → MarkedHistory
trace_marked h [] = h
trace_marked h (m ∷ ms) =
    trace_marked (record { event = record { call = m.call; reply = rule_for (events_of h) m.call }; origin = m.origin } ∷ h) ms

feeds-by-rule : (ms : List Marked) (u : Unit) (h : MarkedHistory) → Fits (since (events_of h)) u → feed_marked u h ms ≡ trace_marked h ms
unfolding feed_marked trace_marked since rule_for
feeds-by-rule [] u h i = refl
feeds-by-rule (m ∷ ms) u h i =
    let k = called (since (events_of h)) u i m.call.bytes m.call.room in
    feeds-by-rule ms (call_of u m.call.bytes m.call.room).unit
    (record { event = record { call = m.call; reply = (call_of u m.call.bytes m.call.room).reply }; origin = m.origin } ∷ h)
    k.fits
    ∙ ap (λ (y : Reply Answer). trace_marked (record { event = record { call = m.call; reply = y }; origin = m.origin } ∷ h) ms) k.replies

pub marked-by-rule : (ms : List Marked) → run_marked ms ≡ trace_marked [] ms
unfolding run_marked since
marked-by-rule ms = feeds-by-rule ms never_opened [] refl
