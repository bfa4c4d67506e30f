-- 04: timeouts (document 01, 'Manager').
use Rattle.std.specs.Prelude.{ℕ, Option, Some, None}
use Rattle.base.specs.Choice.{pick}
use Rattle.base.specs.Due.{due}
use Rattle.esc_feedback.specs.Stats.{ack_timeouts, response_timeouts}
use Rattle.esc_feedback.specs.Pending.{none_open}
use Rattle.esc_fault.specs.Fault.{timed_out_at}
use Rattle.esc_feedback.specs.Manager.{set_pending, set_fault, counting}
use Rattle.esc_lanes.specs.declared.request.EscActuatorRequest.{EscActuatorRequest}
use Rattle.esc_feedback.specs.declared.answer.EscManagerTimeout.TheVariants as timeout
use Rattle.esc_feedback.specs.declared.pending.PendingRequest.{PendingRequest}
use Rattle.esc_feedback.specs.declared.pending.PendingRequest.TheVariants as pending
use Rattle.esc_feedback.specs.declared.manager.EscManager.{EscManager}
use Rattle.esc_feedback.specs.declared.answer.After.{After}
use Rattle.esc_feedback.specs.declared.answer.EscManagerTimeout.{EscManagerTimeout}

abbrev pub no_timeout : EscManager → After (Option EscManagerTimeout)
no_timeout m = record { manager = m; answer = None }

-- a timeout closes the request, drops a held frame, sets faulted and starts the quiet time at its T
abbrev pub timed_out : EscManager → ℕ → EscManager
timed_out m now = set_fault (timed_out_at m.fault now) (set_pending none_open m)

abbrev pub ack_timed_out : EscManager → EscActuatorRequest → ℕ → After (Option EscManagerTimeout)
ack_timed_out m q now = record { manager = counting ack_timeouts (timed_out m now); answer = Some (timeout.ActuatorAck q) }

abbrev pub response_timed_out : EscManager → EscActuatorRequest → ℕ → After (Option EscManagerTimeout)
response_timed_out m q now = record { manager = counting response_timeouts (timed_out m now); answer = Some (timeout.TelemetryResponse q) }

-- an acknowledgement timeout when the open request has had no equal 03 and Due(T of its 02, now, acknowledgement timeout);
-- after that 03, a response timeout when Due(started T of the 03, now, response timeout); otherwise none
unfoldable pub polled_on : EscManager → ℕ → Option PendingRequest → After (Option EscManagerTimeout)
polled_on m now None = no_timeout m
polled_on m now (Some (pending.Queued q t held)) = pick (due t now m.config.actuator_ack_timeout_ms) (ack_timed_out m q now) (no_timeout m)
polled_on m now (Some (pending.Started q t)) = pick (due t now m.config.telemetry_response_timeout_ms) (response_timed_out m q now) (no_timeout m)

unfoldable pub poll_timeout : EscManager → ℕ → After (Option EscManagerTimeout)
poll_timeout m now = polled_on m now m.pending
