-- A session prints what its lowered text was answered before: LF stays where it is, and each line is read as its lowered one was.
use Rattle.std.proofs.Common.{◌≡◌, ℕ, Bool, true, false, eqb, List, [], ◌∷◌, ◌++◌, map, length, refl, sym, ap, ◌∙◌, arith}
use mathlib.Core.List.{map-append}
use borrow.Author.Tests.{ne_eqb, eqb-true, eqb-false}
use Rattle.esc_answers.specs.Answer.{reply_bytes}
use Rattle.esc_unit.specs.Unit.{never_opened}
use Rattle.esc_unit.specs.declared.unit.Unit.{Unit}
use Rattle.hex_lines.specs.Digit.{small}
use Rattle.hex_lines.specs.Line.{line_end}
use Rattle.hex_lines.specs.Capitals.{lowered, no_capitals}
use Rattle.hex_lines.proofs.SmallLaws.{small-end, small-no-end}
use Rattle.hex_lines.proofs.AsBefore.{lowered-twice, lowered-none, read-lowered}
use Rattle.hex_lines.proofs.PrintedSmall.{none-joined, line-small}
use Rattle.hex_lines.specs.Lines.{lines_from, lines_of}
use Rattle.unit_text.specs.Session.{answer_line, unit_after, line_text, lines_text, session_text}
use Rattle.hex_lines.proofs.LinesLaws.{lines-at-end, lines-at-other}
use Rattle.session_rules.specs.Capitals.{text_before, session_before, CapitalsAlike, AnsweredAsBefore, PrintedSmall}

-- the end of input ends a line or not, lowered or not
last-lowered : (line : List ℕ) → lines_from (lowered line) [] ≡ map lowered (lines_from line [])
unfolding lines_from
last-lowered [] = refl
last-lowered (c ∷ line) =
    rw (ne_eqb (length (small c ∷ lowered line)) 0 (λ z. omega arith), ne_eqb (length (c ∷ line)) 0 (λ z. omega arith))

-- lowered, a text has the lowered lines
abbrev Lowered : List ℕ → Type 0
Lowered text = (line : List ℕ) → lines_from (lowered line) (lowered text) ≡ map lowered (lines_from line text)

lowered-one : (text : List ℕ) → Lowered text → (line : List ℕ) (c : ℕ) (b : Bool) → eqb c line_end ≡ b
    → lines_from (lowered line) (small c ∷ lowered text) ≡ map lowered (lines_from line (c ∷ text))
lowered-one text ih line c true e =
    let end = eqb-true c line_end e in
    rw (lines-at-end line text c end, lines-at-end (lowered line) (lowered text) (small c) (small-end c end))
    (ap (λ (l : List (List ℕ)). lowered line ∷ l) (ih []))
lowered-one text ih line c false e =
    let other = eqb-false c line_end e in
    rw (lines-at-other line text c other, lines-at-other (lowered line) (lowered text) (small c) (small-no-end c other), ← map-append small line (c ∷ []))
    (ih (line ++ c ∷ []))

lines-lowered : (text : List ℕ) → Lowered text
lines-lowered [] line = last-lowered line
lines-lowered (c ∷ text) line = lowered-one text (lines-lowered text) line c (eqb c line_end) refl

-- each line is answered as its lowered one was before
text-lowered : (u : Unit) (lines : List (List ℕ)) → lines_text u lines ≡ text_before u (map lowered lines)
unfolding lines_text text_before line_text answer_line
text-lowered u [] = refl
text-lowered u (line ∷ lines) =
    rw (← read-lowered line) (ap (λ (t : List ℕ). line_text u line ++ t) (text-lowered (unit_after u line) lines))

pub session-lowered : (text : List ℕ) → session_text text ≡ session_before (lowered text)
unfolding session_text session_before
session-lowered text = text-lowered never_opened (lines_of text) ∙ ap (text_before never_opened) (sym (lines-lowered text []))

pub capitals-alike : CapitalsAlike
capitals-alike text = session-lowered text ∙ ap session_before (sym (lowered-twice text)) ∙ sym (session-lowered (lowered text))

pub answered-as-before : AnsweredAsBefore
answered-as-before text e = session-lowered text ∙ ap session_before (lowered-none text e)

text-small : (u : Unit) (lines : List (List ℕ)) → no_capitals (lines_text u lines) ≡ true
unfolding lines_text line_text
text-small u [] = refl
text-small u (line ∷ lines) =
    none-joined (line_text u line) _ (line-small (reply_bytes (answer_line u line).reply)) (text-small (unit_after u line) lines)

pub printed-small : PrintedSmall
unfolding session_text
printed-small text = text-small never_opened (lines_of text)
