-- Each line that an answer is printed as is found again whole, tells what the answer delivers, and the sample of it is read back.
use Rattle.std.proofs.Common.{◌≡◌, ℕ, ◌/◌, ◌%◌, ◌≤◌, List, [], ◌∷◌, ◌++◌, Option, Some, None, All, length, refl, ap, ◌∙◌, arith}
use Rattle.std.proofs.Common.{append_assoc}
use Rattle.std.proofs.lemmas.Bool.Decides.{nat_tests}
use Rattle.std.proofs.lemmas.List.{map-append}
use Rattle.std.proofs.lemmas.List.Elements.{All-head, All-tail}
use Rattle.base.specs.Reply.{Reply, accepted, refused}
use Rattle.esc_lanes.specs.declared.request.EscTelemetryUpdate.{EscTelemetryUpdate}
use Rattle.hex_lines.specs.Digit.{glyph_of}
use Rattle.hex_lines.specs.Line.{line_end, hex_of, printed_line}
use Rattle.hex_lines.specs.Lines.{lines_of}
use Rattle.hex_lines.proofs.Unended.{Unended}
use Rattle.hex_lines.proofs.LinesLaws.{lines_none, lines-ended}
use Rattle.esc_answers.specs.Answer.{reply_bytes, longest_answer}
use Rattle.esc_answers.specs.declared.answer.Delivered.{Delivered}
use Rattle.esc_answers.specs.declared.answer.Answer.{Answer}
use Rattle.esc_answers.proofs.AnswerLaws.{answer-at-most}
use Rattle.lent_samples.specs.Samples.{lent_sample, samples_of}
use Rattle.lent_samples.specs.SamplesBack.{SampleRanged}
use Rattle.lent_samples.proofs.SamplesBack.{sample-back}
use Rattle.sheet.specs.Sheet.{sheet_text}
use Rattle.answer_lines.specs.Told.{told_by}
use Rattle.answer_lines.specs.AnswerLine.{line_tells}
use Rattle.answer_lines.specs.Claims.{delivered_in, delivery_tells, Printable}
use Rattle.answer_lines.specs.declared.told.Told.{Told}
use Rattle.answer_lines.proofs.DeliveredByLength.{delivered-by-length}
use Rattle.answer_lines.proofs.EveryAnswerTold.{refusal-told}
use Rattle.answer_lines.proofs.PrintedTold.{printed-told}
use Rattle.flightsheet.specs.Flight.{sample_told, delivered_by, flight_sheet}
use Rattle.flightsheet.specs.Claims.{replies_text, updates_with, updates_in, updates_of, Sayable, FlightOfAnswers}

-- no digit that is printed is LF
glyph-unended : (v : ℕ) → glyph_of v ≡ line_end → ⊥
unfolding glyph_of
glyph-unended v e = grind (arith, nat_tests)

hex-unended : (bytes : List ℕ) → Unended (hex_of bytes)
unfolding hex_of
hex-unended [] = tt
hex-unended (b ∷ bytes) = (glyph-unended (b / 16), (glyph-unended (b % 16), hex-unended bytes))

-- a printed line, and a text behind it
line-found : (bytes text : List ℕ) → lines_of (printed_line bytes ++ text) ≡ hex_of bytes ∷ lines_of text
unfolding printed_line
line-found bytes text =
    ap lines_of (append_assoc (hex_of bytes) (line_end ∷ []) text) ∙ lines-ended (hex_of bytes) text (hex-unended bytes)

reply-at-most : (r : Reply Answer) → length (reply_bytes r) ≤ longest_answer
unfolding reply_bytes
reply-at-most (accepted a) = answer-at-most a
reply-at-most (refused n) = omega arith

-- what a delivery tells is read as its sample
update-back : (d : Option Delivered) → All SampleRanged (updates_with d) → samples_of (sample_told (delivery_tells d)) ≡ updates_with d
update-back None each = refl
update-back (Some d) each = ap (λ (u : EscTelemetryUpdate). u ∷ []) (sample-back d.update (All-head SampleRanged d.update [] each))

reply-tells : (r : Reply Answer) → Printable r → All SampleRanged (updates_in r) → samples_of (sample_told (told_by (reply_bytes r))) ≡ updates_in r
unfolding reply_bytes
reply-tells (accepted a) k each =
    ap (λ (t : Told). samples_of (sample_told t)) (delivered-by-length a k).tells ∙ update-back (delivered_in a) each
reply-tells (refused n) k each = ap (λ (t : Told). samples_of (sample_told t)) (refusal-told n k.1)

line-delivers : (r : Reply Answer) → Sayable r → samples_of (sample_told (line_tells (hex_of (reply_bytes r)))) ≡ updates_in r
line-delivers r s =
    ap (λ (t : Told). samples_of (sample_told t)) (printed-told (reply_bytes r) s.bytes (reply-at-most r)) ∙ reply-tells r s.printable s.ranged

-- the samples that the lines of the text deliver are those that the answers deliver
samples-found : (rs : List (Reply Answer)) → All Sayable rs → samples_of (delivered_by (lines_of (replies_text rs))) ≡ updates_of rs
samples-found [] each = ap (λ (l : List (List ℕ)). samples_of (delivered_by l)) lines_none
samples-found (r ∷ rs) each =
    let line = hex_of (reply_bytes r) in
    let rest = lines_of (replies_text rs) in
    ap (λ (l : List (List ℕ)). samples_of (delivered_by l)) (line-found (reply_bytes r) (replies_text rs))
    ∙ map-append lent_sample (sample_told (line_tells line)) (delivered_by rest)
    ∙ ap (λ (l : List EscTelemetryUpdate). l ++ samples_of (delivered_by rest)) (line-delivers r (All-head Sayable r rs each))
    ∙ ap (λ (l : List EscTelemetryUpdate). updates_in r ++ l) (samples-found rs (All-tail Sayable r rs each))

pub flight-of-answers : FlightOfAnswers
unfolding flight_sheet
flight-of-answers map magnets rs each = ap (sheet_text map magnets) (samples-found rs each)
