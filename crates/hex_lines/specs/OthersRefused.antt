-- 'Refusal 2 is left for other characters' (document 02, Q-1), by the typed rows.
use Rattle.std.specs.Prelude.{ℕ, ◌≤◌, ◌≡◌, Bool, true, List, length, is_none}
use Rattle.std.specs.List.{list_any}
use Rattle.base.specs.Reply.{refused}
use Rattle.hex_lines.specs.Line.{read_line}
use Rattle.hex_lines.specs.TypedDigits.{typed_value}

-- one of its characters is in no row
abbrev pub has_other : List ℕ → Bool
has_other line = list_any (λ c. is_none (typed_value c)) line

-- a line is refused by 2 only if it has such a character, and each line that has one is, unless it is too wide and so refused by 1
pub record OthersRefused : Type 0 where
  pub only : (line : List ℕ) → read_line line ≡ refused 2 → has_other line ≡ true
  pub all : (line : List ℕ) → length line ≤ 58 → has_other line ≡ true → read_line line ≡ refused 2
