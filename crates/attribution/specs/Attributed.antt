-- The claims: the marks are not seen, and a delivered sample was read from the bytes that its own request made an ESC send.
use Rattle.std.specs.Prelude.{ℕ, ◌≡◌, List, [], ◌∷◌, ◌++◌, map, length}
use Rattle.blheli_telemetry.specs.Crc.{crc_of}
use Rattle.blheli_telemetry.specs.Frame.{telemetry_of}
use Rattle.esc_lanes.specs.declared.request.EscActuatorRequest.{EscActuatorRequest}
use Rattle.esc_lanes.specs.declared.request.EscTelemetryUpdate.{EscTelemetryUpdate}
use Rattle.booking.specs.History.{Byte}
use Rattle.booking.specs.Run.{run}
use Rattle.attribution.specs.Marks.{Marked, calls_of, events_of, run_marked, Log}
use Rattle.attribution.specs.Origin.{requests, sent_by, Arrival, arrivals, sent_as}
use Rattle.attribution.specs.EachSample.{booked_on, OfEachSample}
use Rattle.attribution.specs.Wiring.{while_no_fault, Wiring}
use Rattle.attribution.specs.Times.{Timing}
use Rattle.attribution.specs.Cutting.{Cutting}

-- the marks are not seen: without them, a run is the unit's
abbrev pub Unseen : Type 0
Unseen = (ms : List Marked) → events_of (run_marked ms) ≡ (run (calls_of ms)).history

abbrev pub values : List Byte → List ℕ
values bs = map (λ (b : Byte). b.value) bs

-- all that request k made an ESC send, as far as it came in, is nine bytes and their check byte, and no byte came in after them
pub record SentFrame (l : Log) (k : ℕ) : Type 0 where
  pub nine : List Byte
  pub tenth : Byte
  pub count : length nine ≡ 9
  pub checks : tenth.value ≡ crc_of (values nine)
  pub sent : sent_by k l ≡ nine ++ tenth ∷ []
  pub others : List Arrival
  pub newest : arrivals l ≡ others ++ sent_as k (nine ++ tenth ∷ [])

-- the request that the sample is booked to is the latest granted, and all that this request made an ESC send, as far as it came in, is
-- the sample's nine bytes and their check byte, the last at the sample's time
pub record CameFrom (l : Log) (u : EscTelemetryUpdate) : Type 0 where
  pub earlier : List EscActuatorRequest
  pub latest : requests l ≡ booked_on u ∷ earlier
  pub frame : SentFrame l (length earlier)
  pub says : u.observation.sample ≡ telemetry_of (values (frame.nine ++ frame.tenth ∷ []))
  pub when : frame.tenth.at ≡ u.observation.observed_at_ms

-- of every list, where what is assumed holds
abbrev pub AttributedIf : (Log → Type 0) → Type 0
AttributedIf Assumed = (ms : List Marked) → OfEachSample Assumed CameFrom ms

-- with the five assumptions, of bytes taken in while no fault stands
abbrev pub Attributed : Type 0
Attributed = AttributedIf (Wiring while_no_fault)

-- with times in place of the two on quiet
abbrev pub AttributedByTimes : Type 0
AttributedByTimes = AttributedIf Timing

-- of a caller that cuts before each request, with the five assumptions of bytes taken in while a request is open
abbrev pub AttributedByCuts : Type 0
AttributedByCuts = AttributedIf Cutting
