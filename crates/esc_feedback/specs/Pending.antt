-- The open request (document 01, 'Manager').
use Rattle.std.specs.Prelude.{ℕ, Bool, Option, Some, None, is_some}
use Rattle.esc_lanes.specs.declared.request.EscActuatorRequest.{EscActuatorRequest}
use Rattle.esc_lanes.specs.declared.request.EscTelemetryObservation.{EscTelemetryObservation}
use Rattle.esc_feedback.specs.declared.pending.PendingRequest.{PendingRequest}
use Rattle.esc_feedback.specs.declared.pending.PendingRequest.TheVariants as pending

abbrev pub none_open : Option PendingRequest
none_open = None

-- queued, with the frame that came before its acknowledgement, if one did
abbrev pub open_queued : EscActuatorRequest → ℕ → Option EscTelemetryObservation → Option PendingRequest
open_queued q queued_at held = Some (pending.Queued q queued_at held)

-- acknowledged: the next frame answers it
abbrev pub open_started : EscActuatorRequest → ℕ → Option PendingRequest
open_started q started_at = Some (pending.Started q started_at)

abbrev pub is_open : Option PendingRequest → Bool
is_open p = is_some p
