-- 03: an acknowledgement (document 01, 'Manager').
use Rattle.std.specs.Prelude.{ℕ, Option, Some, None}
use Rattle.base.specs.Choice.{pick}
use Rattle.esc_lanes.specs.Request.{same_request, update_of}
use Rattle.esc_feedback.specs.Stats.{started_requests, acks_mismatched}
use Rattle.esc_feedback.specs.Pending.{open_started}
use Rattle.esc_feedback.specs.Manager.{set_pending, counting, heard_by, closed_by_sample}
use Rattle.esc_lanes.specs.declared.request.EscActuatorRequest.{EscActuatorRequest}
use Rattle.esc_lanes.specs.declared.request.EscActuatorAck.{EscActuatorAck}
use Rattle.esc_feedback.specs.declared.answer.EscAckOutcome.TheVariants as outcome
use Rattle.esc_feedback.specs.declared.pending.PendingRequest.{PendingRequest}
use Rattle.esc_feedback.specs.declared.pending.PendingRequest.TheVariants as pending
use Rattle.esc_feedback.specs.declared.manager.EscManager.{EscManager}
use Rattle.esc_feedback.specs.declared.answer.After.{After}
use Rattle.esc_feedback.specs.declared.answer.EscAckOutcome.{EscAckOutcome}
use Rattle.esc_lanes.specs.declared.request.EscTelemetryObservation.{EscTelemetryObservation}

-- counted as mismatched and rejected
abbrev pub rejected_ack : EscManager → After EscAckOutcome
rejected_ack m = record { manager = counting acks_mismatched m; answer = outcome.Rejected }

-- the queued request was started: a frame that was held is its sample, else its frame is waited for
abbrev pub started_by : EscManager → EscActuatorRequest → ℕ → Option EscTelemetryObservation → After EscAckOutcome
started_by m q started_at None =
    record { manager = set_pending (open_started q started_at) (counting started_requests m); answer = outcome.Accepted }
started_by m q started_at (Some o) =
    record { manager = closed_by_sample (counting started_requests m); answer = outcome.Sample (update_of q o) }

-- with no request queued an acknowledgement is mismatched; so is one with another sequence or lane, or a second equal one
unfoldable pub ack_on : EscManager → EscActuatorAck → Option PendingRequest → After EscAckOutcome
ack_on m a None = rejected_ack m
ack_on m a (Some (pending.Started q t)) = rejected_ack m
ack_on m a (Some (pending.Queued q t held)) = pick (same_request a.request q) (started_by m q a.started_at_ms held) (rejected_ack m)

-- while faulted, a 03 moves the quiet start by its started time
unfoldable pub on_ack : EscManager → EscActuatorAck → After EscAckOutcome
on_ack m a = ack_on (heard_by m a.started_at_ms) a m.pending
