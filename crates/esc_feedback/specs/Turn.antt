-- The lanes' turn (document 01, 'Manager').
use Rattle.std.specs.Prelude.{ℕ, Bool, true, Option, Some, None}
use Rattle.base.specs.Due.{due}
use Rattle.esc_lanes.specs.Output.{next_output}
use Rattle.esc_feedback.specs.Stats.{more}
use Rattle.esc_lanes.specs.declared.output.Lane.TheVariants.{Output1}
use Rattle.esc_lanes.specs.declared.request.EscActuatorRequest.{EscActuatorRequest}
use Rattle.esc_feedback.specs.declared.turn.Turn.{Turn}

-- the first request has lane 0 and sequence 0
abbrev pub first_turn : Turn
first_turn = record { output = record { 0 = Output1 }; sequence = 0; last_request_ms = None }

-- the request whose turn it is
abbrev pub turn_request : Turn → EscActuatorRequest
turn_request t = record { sequence = t.sequence; output = t.output }

-- period due since the last queueing, if any
abbrev pub period_due : Option ℕ → ℕ → ℕ → Bool
period_due None now period = true
period_due (Some then) now period = due then now period

-- once its request is queued: the lane after it, 1 added to the sequence modulo 2^32, and the time noted
abbrev pub turn_after : Turn → ℕ → Turn
turn_after t now = record { output = next_output t.output; sequence = more t.sequence; last_request_ms = Some now }
