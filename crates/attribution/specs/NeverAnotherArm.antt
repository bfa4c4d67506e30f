-- The claim that noise does not touch: no byte of another arm is in a reading.
use Rattle.std.specs.Prelude.{ℕ, ◌≡◌, Bool, true, List, ◌∷◌, eqb, length}
use Rattle.std.specs.Prelude.{Option}
use Rattle.blheli_telemetry.specs.Frame.{telemetry_of}
use Rattle.esc_lanes.specs.declared.request.EscActuatorRequest.{EscActuatorRequest}
use Rattle.esc_lanes.specs.declared.request.EscTelemetryUpdate.{EscTelemetryUpdate}
use Rattle.booking.specs.FirstNine.{of_bytes}
use Rattle.attribution.specs.Marks.{Marked, calls_of, Log}
use Rattle.attribution.specs.Origin.{requests}
use Rattle.attribution.specs.Since.{taken_since, values_of, each, Ten, all, InARow}
use Rattle.attribution.specs.Tests.{of_origin}
use Rattle.attribution.specs.EachSample.{booked_on, OfEachSample}
use Rattle.attribution.specs.Pace.{Pace}

-- noise, or sent for request k
abbrev pub no_other : ℕ → Option ℕ → Bool
no_other k o = of_origin (λ j. eqb j k) o

-- the request that the sample is booked to is the latest granted; the sample was read from ten bytes that came in after its 02, one after
-- another, the last at the sample's time; and each of the ten is noise or was sent for that request
pub record NoOtherArm (l : Log) (u : EscTelemetryUpdate) : Type 0 where
  pub earlier : List EscActuatorRequest
  pub latest : requests l ≡ booked_on u ∷ earlier
  pub ten : Ten
  pub row : InARow (all ten) (taken_since l)
  pub own : each (no_other (length earlier)) (all ten) ≡ true
  pub says : u.observation.sample ≡ telemetry_of (values_of (all ten))
  pub when : ten.tenth.byte.at ≡ u.observation.observed_at_ms

-- for every P and every list of calls whose records are bytes, each below 256: so a T is less than 2^64
abbrev pub NeverAnotherArm : Type 0
NeverAnotherArm = (P : ℕ) (ms : List Marked) → of_bytes (calls_of ms) ≡ true → OfEachSample (Pace P) NoOtherArm ms
