-- Whose turn it is, and the request that exists (document 01, 'Manager').
use Rattle.std.specs.Prelude.{ℕ, ◌+◌, ◌%◌, ◌^◌, Bool, true, false, not, ◌&&◌, [], ◌∷◌}
use Rattle.std.specs.Prelude.{Option, None, Some, is_some}
use Rattle.base.specs.Due.{due}
use Rattle.esc_lanes.specs.declared.output.Lane.{Lane}
use Rattle.esc_lanes.specs.declared.output.Lane.TheVariants.{Output1, Output2, Output3, Output4}
use Rattle.esc_lanes.specs.declared.request.EscActuatorRequest.{EscActuatorRequest}
use Rattle.base.specs.Maybe.{or_else, only_if}
use Rattle.booking.specs.History.{Opening, Timed, Past}
use Rattle.booking.specs.Booking.{open_request, equal}
use Rattle.booking.specs.Faults.{faulted}

-- lanes turn in the fixed order of `EscOutput::ALL`
abbrev pub following : Lane → Lane
following Output1 = Output2
following Output2 = Output3
following Output3 = Output4
following Output4 = Output1

-- a yes to 02 sets the turn to the lane after the one granted and adds 1 to the sequence modulo 2^32
abbrev turned : Option Timed → EscActuatorRequest → EscActuatorRequest
turned None t = t
turned (Some g) t =
    record { sequence = (g.request.sequence + 1) % 2 ^ 32; output = record { 0 = following g.request.output.0 } }

-- the first request has lane 0 and sequence 0
unfoldable pub turn : Past → EscActuatorRequest
turn [] = record { sequence = 0; output = record { 0 = Output1 } }
turn (e ∷ h) = turned e.requests.granted (turn h)

abbrev pub at_of : Option Timed → Option ℕ
at_of None = None
at_of (Some g) = Some g.at

-- the T of the latest 02 answered yes
unfoldable pub last_queued : Past → Option ℕ
last_queued [] = None
last_queued (e ∷ h) = or_else (at_of e.requests.granted) (last_queued h)

abbrev pub due_since : Option ℕ → ℕ → ℕ → Bool
due_since None now d = true
due_since (Some t) now d = due t now d

-- a request exists when not faulted, none open, boot delay due, and period due since the last queueing, if any
unfoldable pub existing : Opening → Past → ℕ → Option EscActuatorRequest
existing o h now =
    only_if
    (not (faulted h)
    && (not (is_some (open_request h))
    && (due o.boot now o.config.boot_delay_ms && due_since (last_queued h) now o.config.request_period_ms)))
    (Some (turn h))

-- 02 says yes exactly when it names the request that exists at its T
abbrev pub names : Option EscActuatorRequest → EscActuatorRequest → Bool
names None q = false
names (Some p) q = equal p q
