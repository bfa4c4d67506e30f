-- What is stored of a lane is the newest sample delivered to it since the latest recovery, and 0d answers with what is stored.
use mathlib.Core.Path.{◌≡◌, refl, sym, ◌∙◌, ap}
use mathlib.Core.List.{List, [], ◌∷◌}
use Rattle.std.specs.Prelude.{Option, None, Some}
use mathlib.Core.Bool.{Bool, true, false}
use lib.Dec.{eqb}
use Rattle.base.specs.Choice.{pick}
use Rattle.base.specs.Reply.{accepted}
use Rattle.esc_lanes.specs.Output.{lane_of, lane_number}
use Rattle.esc_lanes.specs.declared.output.Lane.{Lane}
use Rattle.esc_lanes.specs.declared.output.EscOutput.{EscOutput}
use Rattle.esc_lanes.specs.declared.request.EscTelemetryUpdate.{EscTelemetryUpdate}
use Rattle.esc_records.specs.declared.record.Record.TheVariants as kind
use Rattle.esc_answers.specs.declared.answer.Answer.{Answer}
use Rattle.esc_answers.specs.declared.answer.Answer.TheVariants as answer
use Rattle.booking.specs.History.{Seen, Past, Since, since}
use Rattle.booking.specs.Samples.{stored, delivered_on}
use Rattle.booking.specs.Rule.{reply_to}
use Rattle.booking.specs.Run.{run}
use Rattle.booking.specs.Claims.{past_of}
use Rattle.booking.specs.ShownNewest.{since_recovery, newest_of, newest_delivered, ShownNewest}
use Rattle.booking.proofs.Accepted.{refused-accepted, accepted-is, accepted-by-rule}

-- one record more
newer : (e : Seen) (h : Past) (l : Lane) → stored h l ≡ newest_delivered l h → stored (e ∷ h) l ≡ newest_delivered l (e ∷ h)
unfolding stored delivered_on since_recovery
newer e h l before = go e.requests.recovered refl e.requests.delivered refl
  where
    older : List EscTelemetryUpdate
    older = delivered_on (since_recovery h) l

    lane : (u : EscTelemetryUpdate) (z : Bool) → pick z (Some u) (newest_of older) ≡ newest_of (pick z (u ∷ older) older)
    lane u true = refl
    lane u false = refl

    go : (r : Bool) → e.requests.recovered ≡ r → (d : Option EscTelemetryUpdate) → e.requests.delivered ≡ d
        → stored (e ∷ h) l ≡ newest_delivered l (e ∷ h)
    go true r d k = rw r refl
    go false r None k = rw (r, k) before
    go false r (Some u) k = rw (r, k, before) (lane u (eqb (lane_of u.output) (lane_number l)))

stored-newest : (h : Past) (l : Lane) → stored h l ≡ newest_delivered l h
unfolding stored delivered_on since_recovery
stored-newest [] l = refl
stored-newest (e ∷ h) l = newer e h l (stored-newest h l)

by-reply : (s : Option Since) (o : EscOutput) (a : Answer) → reply_to s (kind.StoredSample o) ≡ accepted a
    → a ≡ answer.Stored (newest_delivered o.0 (past_of s))
by-reply None o a e = absurd (refused-accepted 8 a e)
by-reply (Some s) o a e =
    sym (accepted-is (answer.Stored (stored s.past o.0)) a e)
    ∙ ap (λ (x : Option EscTelemetryUpdate). answer.Stored x) (stored-newest s.past o.0)

pub shown-newest : ShownNewest
shown-newest cs c o a read reply = by-reply (since (run cs).history) o a (accepted-by-rule cs c (kind.StoredSample o) a read reply)
