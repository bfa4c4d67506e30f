-- The booking rule (document 01): by which a sample is delivered, and to which request. It reads records and earlier answers only.
use Rattle.std.specs.Prelude.{ℕ, Bool, not, ◌&&◌, ◌||◌, [], ◌∷◌, eqb}
use Rattle.std.specs.Prelude.{Option, None, Some, is_some}
use Rattle.base.specs.Choice.{pick}
use Rattle.blheli_telemetry.specs.Frame.{telemetry_of}
use Rattle.esc_lanes.specs.Output.{lane_of}
use Rattle.esc_lanes.specs.declared.request.EscActuatorRequest.{EscActuatorRequest}
use Rattle.esc_lanes.specs.declared.request.EscTelemetryUpdate.{EscTelemetryUpdate}
use Rattle.base.specs.Maybe.{or_else, earliest, only_if}
use Rattle.booking.specs.History.{Timed, Past}
use Rattle.booking.specs.Wire.{Frame, wire, frame_in}

-- same S and L
abbrev pub equal : EscActuatorRequest → EscActuatorRequest → Bool
equal p q = eqb p.sequence q.sequence && eqb (lane_of p.output) (lane_of q.output)

-- the open request is that of the latest 02 answered yes, unless a sample was delivered or a timeout answered since
unfoldable pub open_request : Past → Option Timed
open_request [] = None
open_request (e ∷ h) =
    pick (is_some e.requests.delivered || is_some e.requests.timeout) None (or_else e.requests.granted (open_request h))

abbrev started_to : EscActuatorRequest → Option Timed → Option ℕ
started_to p None = None
started_to p (Some a) = only_if (equal p a.request) (Some a.at)

-- the started T of the first 03 equal to p since the latest 02 answered yes
unfoldable pub started_at : Past → EscActuatorRequest → Option ℕ
started_at [] p = None
started_at (e ∷ h) p =
    pick (is_some e.requests.granted) None (earliest (started_to p e.requests.acknowledged) (started_at h p))

-- the latest frame since the latest 02 answered yes
unfoldable pub latest_frame : Past → Option Frame
latest_frame [] = None
latest_frame (e ∷ h) = pick (is_some e.requests.granted) None (or_else (frame_in (wire h) e.wire.byte) (latest_frame h))

abbrev pub only_the : Option Timed → (EscActuatorRequest → Bool) → Option EscActuatorRequest
only_the None ok = None
only_the (Some q) ok = only_if (ok q.request) (Some q.request)

-- the open request, if a 03 naming q equals it and is the first such
unfoldable pub newly_started : Past → EscActuatorRequest → Option EscActuatorRequest
newly_started h q = only_the (open_request h) (λ p. equal p q && not (is_some (started_at h p)))

-- the open request, if a 03 equal to it came
unfoldable pub started_request : Past → Option EscActuatorRequest
started_request h = only_the (open_request h) (λ p. is_some (started_at h p))

-- the sample holds the open request's L and S, the T of the frame end and what the frame's bytes say
abbrev pub booked : EscActuatorRequest → Frame → EscTelemetryUpdate
booked q f =
    record {
      output = q.output;
      observation = record { sample = telemetry_of f.bytes; observed_at_ms = f.at; request_sequence = q.sequence };
    }

abbrev pub booked_to : Option EscActuatorRequest → Option Frame → Option EscTelemetryUpdate
booked_to None f = None
booked_to (Some q) None = None
booked_to (Some q) (Some f) = Some (booked q f)
