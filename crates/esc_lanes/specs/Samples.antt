-- The stored samples: the newest of each lane, or none.
use Rattle.std.specs.Prelude.{get_or, set, replicate, Option, Some, None}
use Rattle.esc_lanes.specs.Output.{lane_of}
use Rattle.esc_lanes.specs.declared.output.EscOutput.{EscOutput}
use Rattle.esc_lanes.specs.declared.request.EscTelemetryObservation.{EscTelemetryObservation}
use Rattle.esc_lanes.specs.declared.request.EscTelemetryUpdate.{EscTelemetryUpdate}
use Rattle.esc_lanes.specs.declared.samples.EscSamples.{EscSamples}

-- before the first delivery, and after a recovery
abbrev pub no_samples : EscSamples
no_samples = record { lanes = replicate 4 None }

-- a delivered update takes its lane's place
abbrev pub stored_in : EscSamples → EscTelemetryUpdate → EscSamples
stored_in s u = record { lanes = set s.lanes (lane_of u.output) (Some u.observation) }

abbrev pub sample_at : EscSamples → EscOutput → Option EscTelemetryObservation
sample_at s o = get_or s.lanes (lane_of o) None
