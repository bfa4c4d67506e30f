-- What is claimed of each delivered sample.
use Rattle.std.specs.Prelude.{◌≡◌, List, ◌∷◌, ◌++◌}
use Rattle.std.specs.Prelude.{Some}
use Rattle.esc_lanes.specs.declared.request.EscActuatorRequest.{EscActuatorRequest}
use Rattle.esc_lanes.specs.declared.request.EscTelemetryUpdate.{EscTelemetryUpdate}
use Rattle.attribution.specs.Marks.{Marked, LogEntry, Log, log_after}

-- the request that a sample is booked to
abbrev pub booked_on : EscTelemetryUpdate → EscActuatorRequest
booked_on u = record { sequence = u.observation.request_sequence; output = u.output }

-- a claim holds of each sample delivered in a list of calls fed to a unit never opened, where what is assumed holds up to its delivery
abbrev pub OfEachSample : (Log → Type 0) → (Log → EscTelemetryUpdate → Type 0) → List Marked → Type 0
OfEachSample Assumed Claim ms =
    (later : Log) (e : LogEntry) (l : Log) (u : EscTelemetryUpdate)
    → log_after ms ≡ later ++ e ∷ l
    → e.seen.requests.delivered ≡ Some u
    → Assumed (e ∷ l)
    → Claim (e ∷ l) u
