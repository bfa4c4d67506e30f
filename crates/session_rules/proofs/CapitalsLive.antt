-- A session in capitals, piece by piece: a reading is delivered and shown, and printed small. Two lines are cut by a chunk's end, the first
-- inside a byte; the second has small letters too, and G is refused. Joined, the parts are docs/capitals.txt.
use Rattle.std.proofs.Common.{◌≡◌, ℕ, true, false, List, [], ◌∷◌, ◌++◌, codes, replicate, refl}
use mathlib.Core.List.{flatten}
use Prim.Native.String.{String}
use Rattle.base.specs.BigEndian.{number_at, bytes_of}
use Rattle.base.specs.Due.{due}
use Rattle.blheli_telemetry.specs.Crc.{crc_bit, crc_bits, crc_byte, crc_from, crc_of}
use Rattle.blheli_telemetry.specs.Frame.{telemetry_of, payload_of, read_frame}
use Rattle.blheli_telemetry.specs.Parser.{shifted_down, push_of}
use Rattle.esc_lanes.specs.Request.{same_request}
use Rattle.esc_feedback.specs.Manager.{closed_by_sample}
use Rattle.esc_feedback.specs.Queueing.{request_exists, next_request, mark_queued}
use Rattle.esc_feedback.specs.Ack.{ack_on, on_ack}
use Rattle.esc_feedback.specs.Wire.{framed_on, received_on, push_wire}
use Rattle.esc_records.specs.Record.{record_of, read_record}
use Rattle.esc_answers.specs.Answer.{
  sample_bytes,
  delivered_bytes,
  idle_bytes,
  ack_bytes,
  wire_bytes,
  stored_bytes,
  body_bytes,
  answer_bytes,
  reply_bytes,
}
use Rattle.esc_books.specs.Books.{booked_in}
use Rattle.esc_books.specs.Figures.{with_sample}
use Rattle.esc_kinds.specs.Step.{step_of}
use Rattle.esc_unit.specs.Unit.{enter, call_of}
use Rattle.hex_lines.specs.Digit.{small_digit, small, digit_of, glyph_of}
use Rattle.hex_lines.specs.Line.{line_end, all_digits, pairs, read_line, hex_of, printed_line}
use Rattle.hex_lines.specs.Capitals.{lowered, no_capitals}
use Rattle.hex_lines.specs.LineBefore.{pairs_before, read_before}
use Rattle.hex_lines.specs.Lines.{lines_from}
use Rattle.unit_text.specs.Session.{answer_line, line_text}
use Rattle.unit_text.specs.Stream.{at_start, after_one, printed_at, after, printed, printed_at_end}
use Rattle.session_rules.specs.Pieces.{pieces}
use Rattle.session_rules.specs.Capitals.{text_before, session_before}

-- lines as they are typed, each ended by LF
abbrev lines : List String → List ℕ
lines [] = []
lines (line ∷ more) = codes line ++ line_end ∷ lines more

abbrev first : List ℕ
first =
    lines
    ("0000000000000000000000001400000064000001F4000000000000ABCD"
    ∷ "020000000000000000000000ABCE"
    ∷ "030000000000000000000000ABCF000000000000ABCF"
    ∷ "0539000000000000ABD0"
    ∷ "0506000000000000ABD1"
    ∷ "052B000000000000ABD2"
    ∷ "0501000000000000ABD3"
    ∷ "0592000000000000ABD4"
    ∷ "0500000000000000ABD5"
    ∷ [])
    ++ codes "05E"

abbrev second : List ℕ
second = lines ("7000000000000ABD6" ∷ "0500000000000000ABD7" ∷ "0551000000000000ABD8" ∷ []) ++ codes "0557000000000000aB"

abbrev third : List ℕ
third = lines ("d9" ∷ "0D00" ∷ "0G" ∷ [])

abbrev parts : List (List ℕ)
parts = first ∷ second ∷ third ∷ []

abbrev answers : List (List ℕ)
answers =
    lines ("00" ∷ "0001" ∷ "0001" ∷ "0000" ∷ "0000" ∷ "0000" ∷ "0000" ∷ "0000" ∷ "0000" ∷ [])
    ∷ lines ("0000" ∷ "0000" ∷ "0000" ∷ [])
    ∷ lines ("00020000000000000000000000abd939062b019200e7005100" ∷ "00010000000000000000000000abd939062b019200e70051" ∷ "02" ∷ [])
    ∷ []
    ∷ []

pub capitals-live : pieces at_start parts ≡ answers
unfolding pieces printed after printed_at after_one printed_at_end line_text answer_line read_line all_digits pairs digit_of small small_digit
    printed_line hex_of glyph_of number_at bytes_of crc_bit crc_bits crc_byte crc_from crc_of telemetry_of payload_of read_frame shifted_down push_of
    due same_request closed_by_sample request_exists next_request mark_queued ack_on on_ack framed_on received_on push_wire with_sample booked_in
    record_of read_record sample_bytes delivered_bytes idle_bytes ack_bytes wire_bytes stored_bytes body_bytes answer_bytes reply_bytes step_of enter
    call_of
capitals-live = refl

-- before, each of the 15 lines was refused for a character that was no digit
pub changed : (no_capitals (flatten parts) ≡ false) × (session_before (flatten parts) ≡ lines (replicate 15 "02"))
unfolding flatten session_before text_before lines_from read_before small_digit printed_line hex_of glyph_of reply_bytes
changed = (refl, refl)

-- and in small letters they had the answers that they have now
pub unchanged : (no_capitals (lowered (flatten parts)) ≡ true) × (session_before (lowered (flatten parts)) ≡ flatten answers)
unfolding flatten small session_before text_before lines_from read_before pairs_before small_digit printed_line hex_of glyph_of number_at
    bytes_of crc_bit crc_bits crc_byte crc_from crc_of telemetry_of payload_of read_frame shifted_down push_of due same_request closed_by_sample
    request_exists next_request mark_queued ack_on on_ack framed_on received_on push_wire with_sample booked_in record_of read_record sample_bytes
    delivered_bytes idle_bytes ack_bytes wire_bytes stored_bytes body_bytes answer_bytes reply_bytes step_of enter call_of
unchanged = (refl, refl)
