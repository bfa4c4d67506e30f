-- 01 and 02: the request that exists, and its queueing (document 01, 'Manager').
use Rattle.std.specs.Prelude.{ℕ, Bool, true, false, not, ◌&&◌, Option, Some, None}
use Rattle.base.specs.Choice.{pick}
use Rattle.base.specs.Due.{due}
use Rattle.esc_lanes.specs.Request.{same_request}
use Rattle.esc_feedback.specs.Stats.{queued_requests}
use Rattle.esc_feedback.specs.Turn.{turn_request, period_due, turn_after}
use Rattle.esc_feedback.specs.Pending.{is_open, open_queued}
use Rattle.esc_feedback.specs.Manager.{is_faulted, set_turn, set_pending, counting}
use Rattle.esc_lanes.specs.declared.request.EscActuatorRequest.{EscActuatorRequest}
use Rattle.esc_feedback.specs.declared.manager.EscManager.{EscManager}
use Rattle.esc_feedback.specs.declared.answer.After.{After}

-- a request exists when not faulted, none open, boot delay due, and period due since the last queueing, if any
unfoldable pub request_exists : EscManager → ℕ → Bool
request_exists m now =
    not (is_faulted m)
    && (not (is_open m.pending)
    && (due m.boot_started_ms now m.config.boot_delay_ms
    && period_due m.turn.last_request_ms now m.config.request_period_ms))

unfoldable pub next_request : EscManager → ℕ → Option EscActuatorRequest
next_request m now = pick (request_exists m now) (Some (turn_request m.turn)) None

abbrev pub is_wanted : EscActuatorRequest → Option EscActuatorRequest → Bool
is_wanted q None = false
is_wanted q (Some wanted) = same_request q wanted

-- a yes to 02 opens the request, moves the turn and is counted
abbrev pub granted : EscManager → EscActuatorRequest → ℕ → EscManager
granted m q now = counting queued_requests (set_turn (turn_after m.turn now) (set_pending (open_queued q now None) m))

abbrev pub yes : EscManager → After Bool
yes m = record { manager = m; answer = true }

abbrev pub no : EscManager → After Bool
no m = record { manager = m; answer = false }

-- 02 says yes exactly when it names the request that exists at its T
unfoldable pub mark_queued : EscManager → EscActuatorRequest → ℕ → After Bool
mark_queued m q now = pick (is_wanted q (next_request m now)) (yes (granted m q now)) (no m)
