-- Lists on which the claims on framing say something: the same bytes after a cut are a frame whatever came before; a cut among ten bytes undoes one.
use mathlib.Core.Path.{◌≡◌, refl}
use mathlib.Core.List.{List, [], ◌∷◌, ◌++◌, map}
use Rattle.std.specs.Prelude.{Option, None, Some}
use Prim.Native.Nat.{ℕ}
use lib.ListN.{replicate}
use Rattle.base.specs.BigEndian.{number_at, bytes_of}
use Rattle.blheli_telemetry.specs.Crc.{crc_bit, crc_bits, crc_byte, crc_from, crc_of}
use Rattle.blheli_telemetry.specs.Frame.{telemetry_of, payload_of}
use Rattle.base.specs.Due.{due}
use Rattle.esc_records.specs.Record.{record_of, read_record}
use Rattle.esc_answers.specs.Answer.{
  request_bytes,
  sample_bytes,
  delivered_bytes,
  failure_bytes,
  idle_bytes,
  next_bytes,
  ack_bytes,
  wire_bytes,
  timeout_bytes,
  body_bytes,
  answer_bytes,
}
use Rattle.booking.specs.History.{since}
use Rattle.booking.specs.Wire.{wire, latest, frame_at}
use Rattle.booking.specs.Booking.{open_request, started_at, latest_frame, newly_started, started_request}
use Rattle.booking.specs.Faults.{faulted, quiet_since, retries, timeout_for, recovers, note}
use Rattle.booking.specs.Turns.{turn, last_queued, existing}
use Rattle.booking.specs.IdleRule.{check, verdict, streak, judged}
use Rattle.booking.specs.Rule.{rule_for, trace_of}
use Rattle.booking.proofs.Calls.{open', byte, cut_wire, nine}
use Rattle.booking.proofs.Live.{past_by}

-- the frame that a byte ends, after an opening and a list of records
abbrev ended_by : ℕ → List (List ℕ) → Option (List ℕ)
ended_by b records = frame_at (wire (past_by (open' ∷ records))) b

pub framing : (ended_by 0x5a (map (byte 1) (0xaa ∷ 0x00 ∷ 0x00 ∷ []) ++ cut_wire ∷ map (byte 2) nine) ≡ Some (nine ++ 0x5a ∷ []))
    × (ended_by 0x5a (cut_wire ∷ map (byte 7) nine) ≡ Some (nine ++ 0x5a ∷ []))
    × (ended_by 0x00 (map (byte 1) (replicate 9 0x00)) ≡ Some (replicate 10 0x00))
    × (ended_by 0x00 (map (byte 1) (replicate 5 0x00) ++ cut_wire ∷ map (byte 1) (replicate 4 0x00)) ≡ None)
unfolding number_at bytes_of crc_bit crc_bits crc_byte crc_from crc_of telemetry_of payload_of due record_of read_record request_bytes sample_bytes
    delivered_bytes failure_bytes idle_bytes next_bytes ack_bytes wire_bytes timeout_bytes body_bytes answer_bytes since wire latest frame_at
    open_request started_at latest_frame newly_started started_request faulted quiet_since retries timeout_for recovers note turn last_queued existing
    check verdict streak judged rule_for trace_of
framing = (refl, refl, refl, refl)
