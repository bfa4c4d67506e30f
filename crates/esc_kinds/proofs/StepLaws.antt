-- The step of 03 and 05, whose answer decides what becomes of the books, and of 01, 02 and 04, which a loop over lines answers itself.
use mathlib.Core.Path.{◌≡◌, refl, ap}
use Prim.Native.Nat.{ℕ}
use Rattle.esc_feedback.specs.Queueing.{next_request, mark_queued}
use Rattle.esc_feedback.specs.Ack.{on_ack}
use Rattle.esc_feedback.specs.Timeout.{poll_timeout}
use Rattle.esc_feedback.specs.Wire.{push_wire}
use Rattle.esc_lanes.specs.declared.request.EscActuatorRequest.{EscActuatorRequest}
use Rattle.esc_lanes.specs.declared.request.EscActuatorAck.{EscActuatorAck}
use Rattle.esc_feedback.specs.declared.answer.EscAckOutcome.{EscAckOutcome}
use Rattle.esc_lanes.specs.declared.request.EscTelemetryUpdate.{EscTelemetryUpdate}
use Rattle.std.specs.Prelude.{Option}
use Rattle.esc_feedback.specs.declared.manager.EscManager.{EscManager}
use Rattle.esc_books.specs.declared.books.Books.{Books}
use Rattle.esc_records.specs.declared.record.Record.TheVariants as kind
use Rattle.esc_answers.specs.declared.answer.Answer.TheVariants as answer
use Rattle.esc_kinds.specs.Step.{stepped, acked_on, wire_stepped, step_of}

module _ (m : EscManager) (b : Books) (now : ℕ) where
  pub step-next : step_of m b (kind.NextRequest now) ≡ stepped m b (answer.Request (next_request m now))
  unfolding step_of
  step-next = refl

  pub step-mark : (q : EscActuatorRequest)
      → step_of m b (kind.MarkRequestQueued q now) ≡ stepped (mark_queued m q now).manager b (answer.Decided (mark_queued m q now).answer)
  unfolding step_of
  step-mark q = refl

  pub step-ack : (k : EscActuatorAck) (o : EscAckOutcome) → (on_ack m k).answer ≡ o
      → step_of m b (kind.ActuatorAck k now) ≡ acked_on (on_ack m k).manager b now o
  unfolding step_of
  step-ack k o e = ap (acked_on (on_ack m k).manager b now) e

  pub step-poll : step_of m b (kind.PollTimeout now) ≡ stepped (poll_timeout m now).manager b (answer.Timeout (poll_timeout m now).answer)
  unfolding step_of
  step-poll = refl

  pub step-byte : (x : ℕ) (w : Option EscTelemetryUpdate) → (push_wire m x now).answer ≡ w
      → step_of m b (kind.WireByte x now) ≡ wire_stepped (push_wire m x now).manager b now w
  unfolding step_of
  step-byte x w e = ap (wire_stepped (push_wire m x now).manager b now) e
