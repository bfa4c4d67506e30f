-- What is printed for a whole text fed as a stream is its session: its lines, one after the other.
use mathlib.Core.Path.{◌≡◌, refl, ap, ◌∙◌}
use mathlib.Core.Bool.{Bool, true, false}
use mathlib.Core.List.{List, [], ◌∷◌, ◌++◌, append-nil, append_assoc}
use Prim.Native.Nat.{ℕ}
use native.Mathlib.Omega.{arith}
use borrow.Author.Tests.{ne_eqb, eqb-true, eqb-false}
use lib.Dec.{eqb}
use lib.ListN.{length, take}
use Rattle.esc_unit.specs.declared.unit.Unit.{Unit}
use Rattle.hex_lines.specs.Line.{line_end, most_held}
use Rattle.hex_lines.specs.Lines.{lines_from}
use Rattle.unit_text.specs.Session.{unit_after, line_text, lines_text, session_text}
use Rattle.unit_text.specs.Stream.{Streamed, at_start, after_one, printed_at, after, printed, printed_at_end}
use Rattle.hex_lines.proofs.HeldLaws.{enough-more}
use Rattle.unit_text.proofs.HeldAnswer.{enough-unit, enough-text}
use Rattle.hex_lines.proofs.LinesLaws.{lines-at-end, lines-at-other}
use Rattle.unit_text.proofs.StreamLaws.{passed, after-end, printed-end, after-other, printed-other}

abbrev all : Streamed → List ℕ → List ℕ
all s text = printed s text ++ printed_at_end (after s text)

abbrev Says : List ℕ → Type 0
Says text = (u : Unit) (line : List ℕ) → all (passed u line) text ≡ lines_text u (lines_from line text)

at_once : (s : Streamed) (c : ℕ) (text : List ℕ) → all s (c ∷ text) ≡ printed_at s c ++ all (after_one s c) text
unfolding printed after
at_once s c text = append_assoc (printed_at s c) (printed (after_one s c) text) (printed_at_end (after (after_one s c) text))

says-end : (text : List ℕ) → Says text → (u : Unit) (line : List ℕ) (c : ℕ) → c ≡ line_end
    → all (passed u line) (c ∷ text) ≡ lines_text u (lines_from line (c ∷ text))
unfolding lines_text
says-end text ih u line c e =
    at_once (passed u line) c text
    ∙ rw (after-end (passed u line) c e, printed-end (passed u line) c e, enough-unit u line, enough-text u line, lines-at-end line text c e)
    (ap (λ (l : List ℕ). line_text u line ++ l) (ih (unit_after u line) []))

says_other : (text : List ℕ) → Says text → (u : Unit) (line : List ℕ) (c : ℕ) → (c ≡ line_end → ⊥)
    → all (passed u line) (c ∷ text) ≡ lines_text u (lines_from line (c ∷ text))
says_other text ih u line c n =
    at_once (passed u line) c text
    ∙ rw (after-other (passed u line) c n, printed-other (passed u line) c n, enough-more line c, lines-at-other line text c n)
    (ih u (line ++ c ∷ []))

says_none : Says []
unfolding printed after printed_at_end lines_from lines_text
says_none u [] = refl
says_none u (c ∷ line) =
    let some : eqb (length (c ∷ line)) 0 ≡ false = ne_eqb (length (c ∷ line)) 0 (λ z. omega arith) in
    let some-held : eqb (length (take most_held (c ∷ line))) 0 ≡ false = ne_eqb (length (take most_held (c ∷ line))) 0 (λ z. omega arith) in
    rw (some, some-held, enough-text u (c ∷ line), append-nil)

says-by : (text : List ℕ) → Says text → (u : Unit) (line : List ℕ) (c : ℕ) (b : Bool) → eqb c line_end ≡ b
    → all (passed u line) (c ∷ text) ≡ lines_text u (lines_from line (c ∷ text))
says-by text ih u line c true e = says-end text ih u line c (eqb-true c line_end e)
says-by text ih u line c false e = says_other text ih u line c (eqb-false c line_end e)

says : (text : List ℕ) → Says text
says [] u line = says_none u line
says (c ∷ text) u line = says-by text (says text) u line c (eqb c line_end) refl

pub streamed-session : (text : List ℕ) → printed at_start text ++ printed_at_end (after at_start text) ≡ session_text text
unfolding session_text
streamed-session text = says text at_start.unit []

-- the same, as the search finds it
pub ruleset whole_text = (streamed-session)
