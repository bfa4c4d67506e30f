-- Lists run by the unit itself: two with the same bytes and cuts after a cut of each, whose samples are the same though other records and
-- times differ; and lists in which one thing that is asked for fails.
use Rattle.std.specs.Prelude.{Option, None, Some}
use mathlib.Core.Path.{◌≡◌, refl}
use mathlib.Core.Bool.{Bool, true, false}
use mathlib.Core.List.{List, [], ◌∷◌, ◌++◌, map}
use Prim.Native.Nat.{ℕ}
use lib.ListN.{take, drop, replicate}
use Rattle.base.specs.BigEndian.{number_at, bytes_of}
use Rattle.blheli_telemetry.specs.Crc.{crc_bit, crc_bits, crc_byte, crc_from, crc_of}
use Rattle.blheli_telemetry.specs.Frame.{telemetry_of, payload_of, read_frame}
use Rattle.blheli_telemetry.specs.Parser.{shifted_down, push_of}
use Rattle.blheli_telemetry.specs.declared.frame.EscTelemetry.{EscTelemetry}
use Rattle.base.specs.Due.{due}
use Rattle.esc_lanes.specs.Request.{same_request}
use Rattle.esc_feedback.specs.Manager.{closed_by_sample}
use Rattle.esc_fault.specs.Fault.{quiet_window, may_recover}
use Rattle.esc_feedback.specs.Queueing.{request_exists, next_request, mark_queued}
use Rattle.esc_feedback.specs.Ack.{ack_on, on_ack}
use Rattle.esc_feedback.specs.Timeout.{polled_on, poll_timeout}
use Rattle.esc_feedback.specs.Wire.{framed_on, received_on, push_wire}
use Rattle.esc_feedback.specs.Recovery.{try_recover}
use Rattle.esc_books.specs.Figures.{with_sample}
use Rattle.esc_books.specs.Books.{booked_in}
use Rattle.esc_records.specs.Record.{record_of, read_record}
use Rattle.esc_answers.specs.Answer.{
  request_bytes,
  sample_bytes,
  delivered_bytes,
  failure_bytes,
  idle_bytes,
  next_bytes,
  ack_bytes,
  wire_bytes,
  timeout_bytes,
  report_bytes,
  body_bytes,
  answer_bytes,
}
use Rattle.esc_kinds.specs.Step.{step_of}
use Rattle.esc_unit.specs.Unit.{enter, call_of}
use Rattle.booking.specs.History.{since, Call}
use Rattle.booking.specs.Wire.{OnWire, byte, cut, wire}
use Rattle.booking.specs.Run.{feed, run}
use Rattle.booking.specs.Claims.{past_after}
use Rattle.booking.specs.FramedFromCut.{passed, rest, reopened, heard, given, just_cut}
use Rattle.booking.proofs.Calls.{roomy, open', queue, acknowledge, poll, byte as wire_byte, cut_wire, recover, nine}

abbrev calls : List (List ℕ) → List Call
calls records = map roomy records

abbrev bytes : ℕ → List ℕ → List (List ℕ)
bytes t values = map (wire_byte t) values

-- a frame and four bytes of a second, which a cut undoes
abbrev first : List ℕ
first = nine ++ 0x5a ∷ replicate 4 0x00

abbrev second : List ℕ
second = replicate 10 0x00

-- three stray bytes and a 06; then nothing but the bytes and the cut
abbrev before : List Call
before = calls (open' ∷ bytes 1 (0xaa ∷ 0x00 ∷ 0x00 ∷ []) ++ cut_wire ∷ [])

abbrev after : List Call
after = calls (bytes 2 first ++ cut_wire ∷ bytes 3 second)

-- a timeout and a recovery; then the same bytes and cut at other times, with a request, a report and a refused record among them
abbrev before' : List Call
before' = calls (open' ∷ queue 0 0 1 ∷ poll 21 ∷ recover 521 ∷ [])

abbrev after' : List Call
after' =
    calls
    (queue 1 1 600
    ∷ bytes 601 first
    ++ ((0x0c ∷ []) ∷ cut_wire ∷ acknowledge 1 1 602 602 ∷ bytes 603 (take 5 second) ++ ((0xff ∷ []) ∷ bytes 604 (drop 5 second))))

-- what the claim speaks of, at the rest of a list
pub record Comes (before after : List Call) (cuts opens : Bool) (bytes : List OnWire) (samples : List (Option EscTelemetry)) : Type 0 where
  pub is_cut : just_cut (wire (past_after before)) ≡ cuts
  pub is-opened : reopened (rest before after) ≡ opens
  pub hears : heard (rest before after) ≡ bytes
  pub gives : given (rest before after) ≡ samples

abbrev same : List OnWire
same = map byte first ++ cut ∷ map byte second

-- the tenth and the twenty-fourth byte end a frame
abbrev samples : List (Option EscTelemetry)
samples = replicate 9 None ++ Some (telemetry_of nine) ∷ (replicate 13 None ++ Some (telemetry_of second) ∷ [])

pub alike : Comes before after true false same samples × Comes before' after' true false same samples
unfolding number_at bytes_of crc_bit crc_bits crc_byte crc_from crc_of telemetry_of payload_of read_frame shifted_down push_of due same_request
    closed_by_sample quiet_window may_recover request_exists next_request mark_queued ack_on on_ack polled_on poll_timeout framed_on
    received_on push_wire try_recover with_sample booked_in record_of read_record request_bytes sample_bytes delivered_bytes failure_bytes idle_bytes
    next_bytes ack_bytes wire_bytes timeout_bytes report_bytes body_bytes answer_bytes step_of enter call_of since wire feed run passed reopened heard
    given
alike = (
  record { is_cut = refl; is-opened = refl; hears = refl; gives = refl },
  record { is_cut = refl; is-opened = refl; hears = refl; gives = refl },
)

-- ten bytes 00
abbrev five : List (List ℕ)
five = bytes 2 (replicate 5 0x00)

abbrev ten : List Call
ten = calls (five ++ five)

abbrev sample : Option EscTelemetry
sample = Some (telemetry_of second)

-- after a cut they are a frame. With a cut among them, with no cut before them, with an opening among them: one thing that is asked for
-- fails, and the samples are others
pub record Apart : Type 0 where
  pub as-asked : Comes before ten true false (map byte second) (replicate 9 None ++ sample ∷ [])
  pub other-cuts : Comes before (calls (five ++ cut_wire ∷ five)) true false (replicate 5 (byte 0x00) ++ cut ∷ replicate 5 (byte 0x00)) (replicate 10 None)
  pub no_cut : Comes (calls (open' ∷ bytes 1 (replicate 9 0x00))) ten false false (map byte second) (sample ∷ replicate 9 None)
  pub opened-anew : Comes before (calls (five ++ open' ∷ five)) true true (map byte second) (replicate 10 None)

pub apart : Apart
unfolding number_at bytes_of crc_bit crc_bits crc_byte crc_from crc_of telemetry_of payload_of read_frame shifted_down push_of due same_request
    closed_by_sample quiet_window may_recover request_exists next_request mark_queued ack_on on_ack polled_on poll_timeout framed_on
    received_on push_wire try_recover with_sample booked_in record_of read_record request_bytes sample_bytes delivered_bytes failure_bytes idle_bytes
    next_bytes ack_bytes wire_bytes timeout_bytes report_bytes body_bytes answer_bytes step_of enter call_of since wire feed run passed reopened heard
    given
apart =
    record {
      as-asked = record { is_cut = refl; is-opened = refl; hears = refl; gives = refl };
      other-cuts = record { is_cut = refl; is-opened = refl; hears = refl; gives = refl };
      no_cut = record { is_cut = refl; is-opened = refl; hears = refl; gives = refl };
      opened-anew = record { is_cut = refl; is-opened = refl; hears = refl; gives = refl };
    }
