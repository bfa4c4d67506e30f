-- What the rule's answer delivers is what the booking rule says.
use mathlib.Core.Path.{◌≡◌, refl, sym, ◌∙◌, ap}
use Rattle.std.specs.Prelude.{Option, None, Some}
use Prim.Native.Nat.{ℕ}
use Rattle.base.specs.Reply.{accepted}
use Rattle.esc_lanes.specs.declared.request.EscActuatorRequest.{EscActuatorRequest}
use Rattle.esc_lanes.specs.declared.request.EscActuatorAck.{EscActuatorAck}
use Rattle.esc_lanes.specs.declared.request.EscTelemetryUpdate.{EscTelemetryUpdate}
use Rattle.esc_records.specs.declared.record.Record.{Record}
use Rattle.esc_records.specs.declared.record.Record.TheVariants as kind
use Rattle.esc_idle.specs.declared.idle_verdict.EscIdleQualificationStatus.{EscIdleQualificationStatus}
use Rattle.esc_answers.specs.declared.answer.Answer.{Answer}
use Rattle.esc_answers.specs.declared.answer.Answer.TheVariants as answer
use Rattle.booking.specs.History.{Opening, Past, Since, since, seen}
use Rattle.booking.specs.Wire.{Frame, wire, frame_at, timed}
use Rattle.booking.specs.Booking.{booked_to, latest_frame, newly_started, started_request}
use Rattle.booking.specs.Rule.{ack_answer, wire_answer_of, answer_to, reply_to}
use Rattle.booking.specs.Run.{run}
use Rattle.booking.specs.Claims.{past_of, delivery_for, DeliveredExactly}
use Rattle.booking.proofs.Accepted.{refused-accepted, accepted-is, accepted-by-rule}

by-ack : (k : EscActuatorAck) (now : ℕ) (q : Option EscActuatorRequest) (f : Option Frame) (says : EscTelemetryUpdate → Option EscIdleQualificationStatus)
    → (seen (kind.ActuatorAck k now) (answer.Ack (ack_answer q f says))).requests.delivered ≡ booked_to q f
by-ack k now None f says = refl
by-ack k now (Some q) None says = refl
by-ack k now (Some q) (Some f) says = refl

by_byte : (b now : ℕ) (u : Option EscTelemetryUpdate) (says : EscTelemetryUpdate → Option EscIdleQualificationStatus)
    → (seen (kind.WireByte b now) (answer.Wire (wire_answer_of u says))).requests.delivered ≡ u
by_byte b now None says = refl
by_byte b now (Some u) says = refl

pub delivers-by-rule : (o : Opening) (h : Past) (r : Record) → (seen r (answer_to o h r)).requests.delivered ≡ delivery_for h r
delivers-by-rule o h (kind.Open c t) = refl
delivers-by-rule o h (kind.NextRequest now) = refl
delivers-by-rule o h (kind.MarkRequestQueued q now) = refl
delivers-by-rule o h (kind.ActuatorAck k now) = by-ack k now (newly_started h k.request) (latest_frame h) _
delivers-by-rule o h (kind.PollTimeout now) = refl
delivers-by-rule o h (kind.WireByte x now) = by_byte x now (booked_to (started_request h) (timed (frame_at (wire h) x) now)) _
delivers-by-rule o h kind.WireDiscontinuity = refl
delivers-by-rule o h (kind.TryRecover armed now) = refl
delivers-by-rule o h kind.TakeBackAfterRetries = refl
delivers-by-rule o h kind.RefreshWireStats = refl
delivers-by-rule o h (kind.IdleCheck c t) = refl
delivers-by-rule o h (kind.IdleStatus now) = refl
delivers-by-rule o h kind.Report = refl
delivers-by-rule o h (kind.StoredSample l) = refl
delivers-by-rule o h (kind.Figures l) = refl

by-reply : (s : Option Since) (r : Record) (a : Answer) → reply_to s r ≡ accepted a → (seen r a).requests.delivered ≡ delivery_for (past_of s) r
by-reply None (kind.Open c t) a e = refl
by-reply None (kind.NextRequest now) a e = absurd (refused-accepted 8 a e)
by-reply None (kind.MarkRequestQueued q now) a e = absurd (refused-accepted 8 a e)
by-reply None (kind.ActuatorAck k now) a e = absurd (refused-accepted 8 a e)
by-reply None (kind.PollTimeout now) a e = absurd (refused-accepted 8 a e)
by-reply None (kind.WireByte x now) a e = absurd (refused-accepted 8 a e)
by-reply None kind.WireDiscontinuity a e = absurd (refused-accepted 8 a e)
by-reply None (kind.TryRecover armed now) a e = absurd (refused-accepted 8 a e)
by-reply None kind.TakeBackAfterRetries a e = absurd (refused-accepted 8 a e)
by-reply None kind.RefreshWireStats a e = absurd (refused-accepted 8 a e)
by-reply None (kind.IdleCheck c t) a e = absurd (refused-accepted 8 a e)
by-reply None (kind.IdleStatus now) a e = absurd (refused-accepted 8 a e)
by-reply None kind.Report a e = absurd (refused-accepted 8 a e)
by-reply None (kind.StoredSample l) a e = absurd (refused-accepted 8 a e)
by-reply None (kind.Figures l) a e = absurd (refused-accepted 8 a e)
by-reply (Some s) r a e =
    ap (λ (z : Answer). (seen r z).requests.delivered) (sym (accepted-is (answer_to s.opening s.past r) a e)) ∙ delivers-by-rule s.opening s.past r

pub delivered-exactly : DeliveredExactly
delivered-exactly cs c r a read reply = by-reply (since (run cs).history) r a (accepted-by-rule cs c r a read reply)
