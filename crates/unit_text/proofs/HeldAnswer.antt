-- The first 59 characters of a line are answered as the whole is.
use mathlib.Core.Path.{◌≡◌, ap}
use mathlib.Core.List.{List}
use Prim.Native.Nat.{ℕ}
use lib.ListN.{take}
use Rattle.esc_unit.specs.Unit.{Replied}
use Rattle.esc_unit.specs.declared.unit.Unit.{Unit}
use Rattle.hex_lines.specs.Line.{most_held}
use Rattle.hex_lines.proofs.HeldLaws.{enough-line}
use Rattle.unit_text.specs.Session.{answer_on, answer_line, unit_after, line_text}

enough-answer : (u : Unit) (line : List ℕ) → answer_line u (take most_held line) ≡ answer_line u line
unfolding answer_line
enough-answer u line = ap (answer_on u) (enough-line line)

pub enough-unit : (u : Unit) (line : List ℕ) → unit_after u (take most_held line) ≡ unit_after u line
enough-unit u line = ap (λ (r : Replied). r.unit) (enough-answer u line)

pub enough-text : (u : Unit) (line : List ℕ) → line_text u (take most_held line) ≡ line_text u line
unfolding line_text
enough-text u line = rw (enough-answer u line)
