-- Samples byte for byte in their answers: one delivered by its tenth byte, one held and delivered by its 03; and why bytes are asked for.
use mathlib.Core.Path.{◌≡◌, refl}
use mathlib.Core.Bool.{true, false}
use mathlib.Core.List.{List, [], ◌∷◌, ◌++◌, map}
use Rattle.std.specs.Prelude.{None, Some}
use Prim.Native.Nat.{ℕ}
use lib.ListN.{take, drop, replicate}
use Rattle.base.specs.Bytes.{are_bytes}
use Rattle.base.specs.BigEndian.{number_at, bytes_of}
use Rattle.blheli_telemetry.specs.Crc.{crc_bit, crc_bits, crc_byte, crc_from, crc_of}
use Rattle.blheli_telemetry.specs.Frame.{telemetry_of, payload_of}
use Rattle.base.specs.Due.{due}
use Rattle.esc_lanes.specs.declared.output.Lane.TheVariants.{Output2}
use Rattle.esc_lanes.specs.declared.request.EscActuatorRequest.{EscActuatorRequest}
use Rattle.esc_records.specs.Record.{record_of, read_record}
use Rattle.esc_answers.specs.Answer.{
  request_bytes,
  sample_bytes,
  delivered_bytes,
  failure_bytes,
  idle_bytes,
  next_bytes,
  ack_bytes,
  wire_bytes,
  timeout_bytes,
  body_bytes,
  answer_bytes,
  reply_bytes,
}
use Rattle.booking.specs.History.{since}
use Rattle.booking.specs.Wire.{Frame, wire, latest, frame_at}
use Rattle.booking.specs.Booking.{open_request, started_at, latest_frame, newly_started, started_request}
use Rattle.booking.specs.Faults.{faulted, quiet_since, retries, timeout_for, recovers, note}
use Rattle.booking.specs.Turns.{turn, last_queued, existing}
use Rattle.booking.specs.IdleRule.{check, verdict, streak, judged}
use Rattle.booking.specs.Rule.{rule_for, trace_of}
use Rattle.booking.specs.FirstNine.{of_bytes, frame_for, sample_holds}
use Rattle.booking.proofs.Calls.{roomy, open', queue, acknowledge, byte, frame}
use Rattle.booking.proofs.Live.{past_by, last_reply}

-- 57 °C, 15.79 V, 4.02 A, 231 mAh, 8100 eRPM; then the check byte
abbrev nine : List ℕ
nine = 0x39 ∷ 0x06 ∷ 0x2b ∷ 0x01 ∷ 0x92 ∷ 0x00 ∷ 0xe7 ∷ 0x00 ∷ 0x51 ∷ []

abbrev tenth : List ℕ
tenth = byte 0x283 0x57

abbrev given : Frame
given = record { bytes = nine ++ 0x57 ∷ []; at = 0x283 }

abbrev second : EscActuatorRequest
second = record { sequence = 1; output = record { 0 = Output2 } }

abbrev answer : List ℕ
answer =
    0x00 ∷ 0x02 ∷ 0x01 ∷ 0x00 ∷ 0x00 ∷ 0x00 ∷ 0x01 ∷ 0x00 ∷ 0x00 ∷ 0x00 ∷ 0x00 ∷ 0x00 ∷ 0x00 ∷ 0x02 ∷ 0x83
    ∷ 0x39 ∷ 0x06 ∷ 0x2b ∷ 0x01 ∷ 0x92 ∷ 0x00 ∷ 0xe7 ∷ 0x00 ∷ 0x51 ∷ 0x00 ∷ []

-- lane 0 has its reading, and lane 1 is asked
abbrev asked : List (List ℕ)
asked = open' ∷ queue 0 0 1 ∷ acknowledge 0 0 1 1 ∷ frame 2 60 ++ queue 1 1 0x280 ∷ []

abbrev acks : List ℕ
acks = acknowledge 1 1 0x281 0x284

-- the 03, then the frame; the frame, then the 03
abbrev started : List (List ℕ)
started = asked ++ acks ∷ map (byte 0x282) nine

abbrev held : List (List ℕ)
held = asked ++ (map (byte 0x282) nine ++ tenth ∷ [])

pub first_live : (of_bytes (map roomy (started ++ tenth ∷ [])) ≡ true)
    × (frame_for (past_by started) (record_of tenth) ≡ Some given)
    × (frame_for (past_by held) (record_of acks) ≡ Some given)
    × (sample_holds second given None ≡ answer)
    × (last_reply (started ++ tenth ∷ []) ≡ answer)
    × (last_reply (held ++ acks ∷ []) ≡ answer)
unfolding number_at bytes_of crc_bit crc_bits crc_byte crc_from crc_of telemetry_of payload_of due record_of read_record request_bytes sample_bytes
    delivered_bytes failure_bytes idle_bytes next_bytes ack_bytes wire_bytes timeout_bytes body_bytes answer_bytes reply_bytes since wire latest
    frame_at open_request started_at latest_frame newly_started started_request faulted quiet_since retries timeout_for recovers note turn last_queued
    existing check verdict streak judged rule_for trace_of are_bytes of_bytes
first_live = (refl, refl, refl, refl, refl, refl)

-- a record with 100 (hexadecimal) where a byte should be: the frame has it, and the answer has 00
abbrev wide : List ℕ
wide = 0x100 ∷ replicate 8 0x00

abbrev widely : List (List ℕ)
widely = open' ∷ queue 0 0 1 ∷ acknowledge 0 0 1 1 ∷ map (byte 2) wide

abbrev widest : List ℕ
widest = byte 2 (crc_of wide)

pub bytes-needed : (of_bytes (map roomy widely) ≡ false)
    × (frame_for (past_by widely) (record_of widest) ≡ Some (record { bytes = wide ++ crc_of wide ∷ []; at = 2 }))
    × (take 9 (drop 15 (last_reply (widely ++ widest ∷ []))) ≡ replicate 9 0x00)
unfolding number_at bytes_of crc_bit crc_bits crc_byte crc_from crc_of telemetry_of payload_of due record_of read_record request_bytes sample_bytes
    delivered_bytes failure_bytes idle_bytes next_bytes ack_bytes wire_bytes timeout_bytes body_bytes answer_bytes reply_bytes since wire latest
    frame_at open_request started_at latest_frame newly_started started_request faulted quiet_since retries timeout_for recovers note turn last_queued
    existing check verdict streak judged rule_for trace_of are_bytes of_bytes
bytes-needed = (refl, refl, refl)
