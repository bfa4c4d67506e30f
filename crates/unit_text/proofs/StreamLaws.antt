-- A stream of characters: it does not matter in which chunks they come.
use mathlib.Core.Path.{◌≡◌, refl}
use mathlib.Core.Bool.{Bool, true, false}
use mathlib.Core.List.{List, [], ◌∷◌, ◌++◌, append_assoc}
use Prim.Native.Nat.{ℕ, ◌≤◌}
use native.Mathlib.Omega.{arith}
use borrow.Author.Tests.{eq-eqb, ne_eqb}
use lib.Dec.{eqb}
use lib.ListN.{length, take}
use Rattle.base.specs.Choice.{pick}
use Rattle.esc_answers.specs.Answer.{reply_bytes}
use Rattle.esc_unit.specs.declared.unit.Unit.{Unit}
use Rattle.hex_lines.specs.Line.{line_end, most_held}
use Rattle.unit_text.specs.Session.{answer_line, unit_after, line_text}
use Rattle.unit_text.specs.Stream.{Streamed, after_one, printed_at, after, printed, printed_at_end, longest_line}
use Rattle.unit_text.proofs.AnswerLength.{reply-length}
use Rattle.hex_lines.proofs.PrintLaws.{printed-length}

-- a stream that has passed `line`, of a line that is not ended
abbrev pub passed : Unit → List ℕ → Streamed
passed u line = record { unit = u; line = take most_held line }

-- chunks do not matter
pub after-append : (s : Streamed) (a b : List ℕ) → after s (a ++ b) ≡ after (after s a) b
unfolding after
after-append s [] b = refl
after-append s (c ∷ a) b = after-append (after_one s c) a b

pub printed-append : (s : Streamed) (a b : List ℕ) → printed s (a ++ b) ≡ printed s a ++ printed (after s a) b
unfolding after printed
printed-append s [] b = refl
printed-append s (c ∷ a) b = rw (printed-append (after_one s c) a b, append_assoc (printed_at s c))

-- at a character, by whether it ends the line
module _ (s : Streamed) (c : ℕ) where
  pub after-end : c ≡ line_end → after_one s c ≡ record { unit = unit_after s.unit s.line; line = [] }
  unfolding after_one
  after-end e = rw (eq-eqb c line_end e)

  pub printed-end : c ≡ line_end → printed_at s c ≡ line_text s.unit s.line
  unfolding printed_at
  printed-end e = rw (eq-eqb c line_end e)

  pub after-other : (c ≡ line_end → ⊥) → after_one s c ≡ record { unit = s.unit; line = take most_held (s.line ++ c ∷ []) }
  unfolding after_one
  after-other n = rw (ne_eqb c line_end n)

  pub printed-other : (c ≡ line_end → ⊥) → printed_at s c ≡ []
  unfolding printed_at
  printed-other n = rw (ne_eqb c line_end n)

-- no printed line takes more than 87 characters
pub line-length : (u : Unit) (line : List ℕ) → length (line_text u line) ≤ longest_line
unfolding line_text
line-length u line =
    omega (arith, printed-length (reply_bytes (answer_line u line).reply), reply-length (answer_line u line).reply)

pick-length : (b : Bool) (x y : List ℕ) → length x ≤ longest_line → length y ≤ longest_line → length (pick b x y) ≤ longest_line
pick-length true x y h k = h
pick-length false x y h k = k

pub printed-at-length : (s : Streamed) (c : ℕ) → length (printed_at s c) ≤ longest_line
unfolding printed_at
printed-at-length s c = pick-length (eqb c line_end) (line_text s.unit s.line) [] (line-length s.unit s.line) (omega arith)

pub end-length : (s : Streamed) → length (printed_at_end s) ≤ longest_line
unfolding printed_at_end
end-length s = pick-length (eqb (length s.line) 0) [] (line_text s.unit s.line) (omega arith) (line-length s.unit s.line)
