-- A line has no LF in it.
use mathlib.Core.Path.{◌≡◌}
use mathlib.Core.List.{List, [], ◌∷◌}
use Prim.Native.Nat.{ℕ}
use Rattle.hex_lines.specs.Line.{line_end}

-- no character of a line is LF
abbrev pub Unended : List ℕ → Type 0
Unended [] = Unit {0}
Unended (c ∷ line) = (c ≡ line_end → ⊥) × Unended line
