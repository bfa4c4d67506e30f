-- Requests, and the samples that answer them.
use Rattle.std.specs.Prelude.{ℕ, Bool, false, eqb}
use Rattle.base.specs.Choice.{pick}
use Rattle.blheli_telemetry.specs.declared.frame.EscTelemetry.{EscTelemetry}
use Rattle.esc_lanes.specs.Output.{same_output}
use Rattle.esc_lanes.specs.declared.request.EscActuatorRequest.{EscActuatorRequest}
use Rattle.esc_lanes.specs.declared.request.EscTelemetryObservation.{EscTelemetryObservation}
use Rattle.esc_lanes.specs.declared.request.EscTelemetryUpdate.{EscTelemetryUpdate}

-- two requests are the same where sequence and lane are
unfoldable pub same_request : EscActuatorRequest → EscActuatorRequest → Bool
same_request a b = pick (eqb a.sequence b.sequence) (same_output a.output b.output) false

-- the sample holds the request's lane and sequence, and the time of the byte that ended its frame
abbrev pub observation_of : EscActuatorRequest → EscTelemetry → ℕ → EscTelemetryObservation
observation_of q sample at = record { sample = sample; observed_at_ms = at; request_sequence = q.sequence }

abbrev pub update_of : EscActuatorRequest → EscTelemetryObservation → EscTelemetryUpdate
update_of q o = record { output = q.output; observation = o }
