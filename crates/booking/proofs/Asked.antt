-- What a record and its answer show of the idle check: a 0a, nothing, or what the rule says to a sample or a 0b.
use mathlib.Core.Path.{◌≡◌, refl}
use Rattle.std.specs.Prelude.{Option, None, Some}
use Prim.Native.Nat.{ℕ}
use Rattle.esc_lanes.specs.declared.request.EscActuatorRequest.{EscActuatorRequest}
use Rattle.esc_lanes.specs.declared.request.EscActuatorAck.{EscActuatorAck}
use Rattle.esc_lanes.specs.declared.request.EscTelemetryUpdate.{EscTelemetryUpdate}
use Rattle.esc_feedback.specs.declared.answer.EscManagerTimeout.{EscManagerTimeout}
use Rattle.esc_records.specs.declared.record.Record.{Record}
use Rattle.esc_records.specs.declared.record.Record.TheVariants as kind
use Rattle.esc_answers.specs.declared.answer.Answer.{Answer}
use Rattle.esc_answers.specs.declared.answer.Answer.TheVariants as answer
use Rattle.booking.specs.History.{Opening, Check, Seen, seen, said_by, Past}
use Rattle.booking.specs.Wire.{Frame, wire, frame_at, timed}
use Rattle.booking.specs.Booking.{booked_to, newly_started, started_request, latest_frame}
use Rattle.booking.specs.Faults.{timeout_for}
use Rattle.booking.specs.IdleRule.{judged}
use Rattle.booking.specs.Rule.{ack_answer, wire_answer_of, answer_to}

pub data Shows (h : Past) (e : Seen) : Type 0 where
  checks : (k : Check) → e.idle.check ≡ Some k → e.idle.status ≡ None → Shows h e
  passes : e.idle.check ≡ None → e.idle.status ≡ None → e.requests.delivered ≡ None → Shows h e
  asks : e.idle.check ≡ None → e.idle.status ≡ Some (judged h e.requests.delivered e.now) → Shows h e

-- and the status that an answer says is the one that is seen
pub record Shown (h : Past) (r : Record) (a : Answer) : Type 0 where
  pub shows : Shows h (seen r a)
  pub status : (said_by a).status ≡ (seen r a).idle.status

module _ (h : Past) where
  acked : (k : EscActuatorAck) (now : ℕ) (q : Option EscActuatorRequest) (f : Option Frame)
      → Shown h (kind.ActuatorAck k now) (answer.Ack (ack_answer q f (λ u. judged h (Some u) now)))
  acked k now None f = record { shows = passes refl refl refl; status = refl }
  acked k now (Some q) None = record { shows = passes refl refl refl; status = refl }
  acked k now (Some q) (Some f) = record { shows = asks refl refl; status = refl }

  polled : (now : ℕ) (t : Option EscManagerTimeout) → Shown h (kind.PollTimeout now) (answer.Timeout t)
  polled now None = record { shows = passes refl refl refl; status = refl }
  polled now (Some t) = record { shows = passes refl refl refl; status = refl }

  received : (b now : ℕ) (u : Option EscTelemetryUpdate) → Shown h (kind.WireByte b now) (answer.Wire (wire_answer_of u (λ v. judged h (Some v) now)))
  received b now None = record { shows = passes refl refl refl; status = refl }
  received b now (Some u) = record { shows = asks refl refl; status = refl }

  pub shown : (o : Opening) (r : Record) → Shown h r (answer_to o h r)
  shown o (kind.Open c t) = record { shows = passes refl refl refl; status = refl }
  shown o (kind.NextRequest now) = record { shows = passes refl refl refl; status = refl }
  shown o (kind.MarkRequestQueued q now) = record { shows = passes refl refl refl; status = refl }
  shown o (kind.ActuatorAck k now) = acked k now (newly_started h k.request) (latest_frame h)
  shown o (kind.PollTimeout now) = polled now (timeout_for o h now)
  shown o (kind.WireByte b now) = received b now (booked_to (started_request h) (timed (frame_at (wire h) b) now))
  shown o kind.WireDiscontinuity = record { shows = passes refl refl refl; status = refl }
  shown o (kind.TryRecover armed now) = record { shows = passes refl refl refl; status = refl }
  shown o kind.TakeBackAfterRetries = record { shows = passes refl refl refl; status = refl }
  shown o kind.RefreshWireStats = record { shows = passes refl refl refl; status = refl }
  shown o (kind.IdleCheck c t) = record { shows = checks (record { config = c; start = t }) refl refl; status = refl }
  shown o (kind.IdleStatus now) = record { shows = asks refl refl; status = refl }
  shown o kind.Report = record { shows = passes refl refl refl; status = refl }
  shown o (kind.StoredSample l) = record { shows = passes refl refl refl; status = refl }
  shown o (kind.Figures l) = record { shows = passes refl refl refl; status = refl }
