-- A text and its capitals (document 02, Q-1).
use Rattle.std.specs.Prelude.{ℕ, Bool, not, List, map}
use Rattle.std.specs.List.{list_any}
use Rattle.hex_lines.specs.Digit.{is_capital, small}

-- with its capitals lowered
abbrev pub lowered : List ℕ → List ℕ
lowered text = map small text

abbrev pub no_capitals : List ℕ → Bool
no_capitals text = not (list_any is_capital text)
