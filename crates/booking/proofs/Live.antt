-- A list on which the claims say something: four deliveries, a held frame that is replaced, a 03 too many, both timeouts, noise while
-- faulted, two recoveries.
use mathlib.Core.Path.{◌≡◌, refl}
use mathlib.Core.List.{List, [], ◌∷◌, ◌++◌, map}
use mathlib.Core.Bool.{true}
use Rattle.std.specs.Prelude.{Option, None, Some, is_some}
use Prim.Native.Nat.{ℕ}
use Rattle.base.specs.Reply.{Reply, accepted, refused}
use Rattle.base.specs.BigEndian.{number_at, bytes_of}
use Rattle.blheli_telemetry.specs.Crc.{crc_bit, crc_bits, crc_byte, crc_from, crc_of}
use Rattle.blheli_telemetry.specs.Frame.{telemetry_of, payload_of}
use Rattle.base.specs.Due.{due}
use Rattle.esc_lanes.specs.Output.{lane_of}
use Rattle.esc_lanes.specs.declared.request.EscTelemetryUpdate.{EscTelemetryUpdate}
use Rattle.esc_feedback.specs.declared.stats.EscManagerStats.{EscManagerStats}
use Rattle.esc_records.specs.Record.{record_of, read_record}
use Rattle.esc_answers.specs.Answer.{
  request_bytes,
  sample_bytes,
  delivered_bytes,
  failure_bytes,
  idle_bytes,
  next_bytes,
  ack_bytes,
  wire_bytes,
  timeout_bytes,
  body_bytes,
  answer_bytes,
  reply_bytes,
}
use Rattle.esc_answers.specs.declared.answer.Answer.{Answer}
use Rattle.booking.specs.History.{Past, History, said_by, update_in, since}
use Rattle.booking.specs.Wire.{wire, latest, frame_at}
use Rattle.booking.specs.Booking.{open_request, started_at, latest_frame, newly_started, started_request}
use Rattle.booking.specs.Faults.{faulted, quiet_since, retries, timeout_for, recovers, note}
use Rattle.booking.specs.Turns.{turn, last_queued, existing}
use Rattle.booking.specs.IdleRule.{check, verdict, streak, judged}
use Rattle.booking.specs.Counts.{count, queued, delivered, ack_timeout, response_timeout, renewed, report_for}
use Rattle.booking.specs.Rule.{rule_for, trace_of}
use Rattle.booking.specs.Claims.{past_of}
use Rattle.booking.proofs.Calls.{roomy, open', queue, acknowledge, poll, byte, recover, frame}

abbrev flight : List (List ℕ)
flight =
    -- frame after the acknowledgement
    open' ∷ queue 0 0 1 ∷ acknowledge 0 0 1 1 ∷ frame 2 60
    -- the same acknowledgement once more; two frames before the next: the later is delivered, with its own time
    ++ (acknowledge 0 0 1 2 ∷ queue 1 1 3 ∷ frame 4 61 ++ (frame 5 62 ++ (acknowledge 1 1 6 6 ∷ []
    -- no acknowledgement; noise while faulted moves the quiet start to 30
    ++ (queue 2 2 7 ∷ poll 27 ∷ byte 30 0xaa ∷ recover 529 ∷ recover 530
    -- no frame
    ∷ queue 3 3 600 ∷ acknowledge 3 3 600 600 ∷ poll 699 ∷ poll 700 ∷ recover 1699 ∷ recover 1700
    ∷ queue 4 0 1800 ∷ acknowledge 4 0 1800 1800 ∷ frame 1801 63
    ++ (queue 5 1 1900 ∷ acknowledge 5 1 1900 1900 ∷ frame 1901 64 ++ (queue 6 2 2000 ∷ []))))))

-- what was delivered: lane, sequence, time, eRPM / 100
pub record Reading : Type 0 where
  pub lane : ℕ
  pub sequence : ℕ
  pub at : ℕ
  pub erpm : ℕ

abbrev pub reading : EscTelemetryUpdate → Reading
reading u =
    record {
      lane = lane_of u.output;
      sequence = u.observation.request_sequence;
      at = u.observation.observed_at_ms;
      erpm = u.observation.sample.erpm_div100;
    }

abbrev readings_in : Option EscTelemetryUpdate → List Reading
readings_in None = []
readings_in (Some u) = reading u ∷ []

abbrev readings_of : Reply Answer → List Reading
readings_of (refused n) = []
readings_of (accepted a) = readings_in (update_in (said_by a).delivered)

abbrev readings : History → List Reading
readings [] = []
readings (e ∷ h) = readings h ++ readings_of e.reply

abbrev pub booked' : ℕ → ℕ → ℕ → ℕ → Reading
booked' l s t e = record { lane = l; sequence = s; at = t; erpm = e }

pub deliveries : readings (trace_of [] (map roomy flight)) ≡ booked' 0 0 2 60 ∷ booked' 1 1 5 62 ∷ booked' 0 4 1801 63 ∷ booked' 1 5 1901 64 ∷ []
unfolding number_at bytes_of crc_bit crc_bits crc_byte crc_from crc_of telemetry_of payload_of due record_of read_record request_bytes sample_bytes
    delivered_bytes failure_bytes idle_bytes next_bytes ack_bytes wire_bytes timeout_bytes body_bytes answer_bytes since wire latest frame_at
    open_request started_at latest_frame newly_started started_request faulted quiet_since retries timeout_for recovers note turn last_queued existing
    check verdict streak judged rule_for trace_of
deliveries = refl

-- what of a list of records is accepted, by the rule
abbrev pub past_by : List (List ℕ) → Past
past_by records = past_of (since (trace_of [] (map roomy records)))

abbrev newest_reply : History → List ℕ
newest_reply [] = []
newest_reply (e ∷ h) = reply_bytes e.reply

-- the bytes of the reply to the last of a list of records, by the rule
abbrev pub last_reply : List (List ℕ) → List ℕ
last_reply records = newest_reply (trace_of [] (map roomy records))

abbrev past : Past
past = past_by flight

-- seven queued: four delivered, a timeout of each kind, and one open
pub balance : (count queued past ≡ 7) × (count delivered past ≡ 4) × (count ack_timeout past ≡ 1) × (count response_timeout past ≡ 1) × (is_some (open_request
    past) ≡ true)
unfolding number_at bytes_of crc_bit crc_bits crc_byte crc_from crc_of telemetry_of payload_of due record_of read_record request_bytes sample_bytes
    delivered_bytes failure_bytes idle_bytes next_bytes ack_bytes wire_bytes timeout_bytes body_bytes answer_bytes since wire latest frame_at
    open_request started_at latest_frame newly_started started_request faulted quiet_since retries timeout_for recovers note turn last_queued existing
    check verdict streak judged rule_for trace_of count
balance = (refl, refl, refl, refl, refl)

-- what a 0c then reports: five 03s taken, one of them with a sample, and one rejected
abbrev stats : EscManagerStats
stats = (report_for past).stats

pub report : (stats.requests_queued ≡ 7) × (stats.requests_started ≡ 5) × (stats.actuator_ack_timeouts ≡ 1) ×
    (stats.telemetry_response_timeouts ≡ 1) × (stats.mismatched_acks ≡ 1) × (stats.recoveries ≡ 2)
unfolding number_at bytes_of crc_bit crc_bits crc_byte crc_from crc_of telemetry_of payload_of due record_of read_record request_bytes sample_bytes
    delivered_bytes failure_bytes idle_bytes next_bytes ack_bytes wire_bytes timeout_bytes body_bytes answer_bytes since wire latest frame_at
    open_request started_at latest_frame newly_started started_request faulted quiet_since retries timeout_for recovers note turn last_queued existing
    check verdict streak judged rule_for trace_of count renewed report_for
report = (refl, refl, refl, refl, refl, refl)
