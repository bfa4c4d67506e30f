-- A list on which 0d shows something: two lanes, an older sample replaced, a recovery that leaves none, and a sample after it.
use mathlib.Core.Path.{◌≡◌, refl}
use mathlib.Core.List.{List, [], ◌∷◌, ◌++◌}
use Rattle.std.specs.Prelude.{Option, None, Some}
use Prim.Native.Nat.{ℕ}
use lib.ListN.{replicate}
use Rattle.base.specs.BigEndian.{number_at, bytes_of}
use Rattle.blheli_telemetry.specs.Crc.{crc_bit, crc_bits, crc_byte, crc_from, crc_of}
use Rattle.blheli_telemetry.specs.Frame.{telemetry_of, payload_of}
use Rattle.base.specs.Due.{due}
use Rattle.esc_lanes.specs.declared.output.Lane.{Lane}
use Rattle.esc_lanes.specs.declared.output.Lane.TheVariants.{Output1, Output2, Output3}
use Rattle.esc_lanes.specs.declared.request.EscTelemetryUpdate.{EscTelemetryUpdate}
use Rattle.esc_records.specs.Record.{record_of, read_record}
use Rattle.esc_answers.specs.Answer.{
  request_bytes,
  sample_bytes,
  delivered_bytes,
  failure_bytes,
  idle_bytes,
  next_bytes,
  ack_bytes,
  wire_bytes,
  timeout_bytes,
  stored_bytes,
  body_bytes,
  answer_bytes,
  reply_bytes,
}
use Rattle.booking.specs.History.{since}
use Rattle.booking.specs.Wire.{wire, latest, frame_at}
use Rattle.booking.specs.Booking.{open_request, started_at, latest_frame, newly_started, started_request}
use Rattle.booking.specs.Faults.{faulted, quiet_since, retries, timeout_for, recovers, note}
use Rattle.booking.specs.Turns.{turn, last_queued, existing}
use Rattle.booking.specs.IdleRule.{check, verdict, streak, judged}
use Rattle.booking.specs.Samples.{stored, delivered_on}
use Rattle.booking.specs.Rule.{rule_for, trace_of}
use Rattle.booking.specs.ShownNewest.{since_recovery, newest_delivered}
use Rattle.booking.proofs.Calls.{open', queue, acknowledge, poll, recover, frame}
use Rattle.booking.proofs.Live.{Reading, reading, booked', past_by, last_reply}

abbrev show : ℕ → List ℕ
show l = 0x0d ∷ l ∷ []

-- a request granted, started and answered at t
abbrev answered : ℕ → ℕ → ℕ → ℕ → List (List ℕ)
answered s l t erpm = queue s l t ∷ acknowledge s l t t ∷ frame t erpm

-- the four lanes in turn, and lane 0 once more
abbrev flight : List (List ℕ)
flight = open' ∷ answered 0 0 1 60 ++ (answered 1 1 2 61 ++ (answered 2 2 3 62 ++ (answered 3 3 4 63 ++ answered 4 0 5 64)))

abbrev recovery : List (List ℕ)
recovery = queue 5 1 6 ∷ poll 26 ∷ recover 526 ∷ []

abbrev later : List (List ℕ)
later = answered 6 2 527 65

abbrev reading_in : Option EscTelemetryUpdate → Option Reading
reading_in None = None
reading_in (Some u) = Some (reading u)

abbrev newest : Lane → List (List ℕ) → Option Reading
newest l records = reading_in (newest_delivered l (past_by records))

-- the claim's words
pub newest-live : (newest Output1 flight ≡ Some (booked' 0 4 5 64))
    × (newest Output2 flight ≡ Some (booked' 1 1 2 61))
    × (newest Output1 (flight ++ recovery) ≡ None)
    × (newest Output2 (flight ++ (recovery ++ later)) ≡ None)
    × (newest Output3 (flight ++ (recovery ++ later)) ≡ Some (booked' 2 6 527 65))
unfolding number_at bytes_of crc_bit crc_bits crc_byte crc_from crc_of telemetry_of payload_of due record_of read_record request_bytes sample_bytes
    delivered_bytes failure_bytes idle_bytes next_bytes ack_bytes wire_bytes timeout_bytes body_bytes answer_bytes since wire latest frame_at
    open_request started_at latest_frame newly_started started_request faulted quiet_since retries timeout_for recovers note turn last_queued existing
    check verdict streak judged rule_for trace_of delivered_on since_recovery
newest-live = (refl, refl, refl, refl, refl)

-- and the answers: 00 none, or 01 sample
abbrev none' : List ℕ
none' = 0x00 ∷ 0x00 ∷ []

abbrev sample : ℕ → ℕ → ℕ → ℕ → List ℕ
sample l s t erpm = 0x00 ∷ 0x01 ∷ l ∷ bytes_of 4 s ++ (bytes_of 8 t ++ (replicate 8 0x00 ++ erpm ∷ []))

pub shown-live : (last_reply (flight ++ show 0 ∷ []) ≡ sample 0 4 5 64)
    × (last_reply (flight ++ show 1 ∷ []) ≡ sample 1 1 2 61)
    × (last_reply (flight ++ (recovery ++ show 0 ∷ [])) ≡ none')
    × (last_reply (flight ++ (recovery ++ (later ++ show 1 ∷ []))) ≡ none')
    × (last_reply (flight ++ (recovery ++ (later ++ show 2 ∷ []))) ≡ sample 2 6 527 65)
unfolding number_at bytes_of crc_bit crc_bits crc_byte crc_from crc_of telemetry_of payload_of due record_of read_record request_bytes sample_bytes
    delivered_bytes failure_bytes idle_bytes next_bytes ack_bytes wire_bytes timeout_bytes stored_bytes body_bytes answer_bytes reply_bytes since wire
    latest frame_at open_request started_at latest_frame newly_started started_request faulted quiet_since retries timeout_for recovers note turn
    last_queued existing check verdict streak judged rule_for trace_of stored
shown-live = (refl, refl, refl, refl, refl)
