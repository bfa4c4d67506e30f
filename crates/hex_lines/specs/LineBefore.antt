-- A line as it was read before A-F were digits (document 01), kept so that today's reading can be compared with it. No code goes by it.
use Rattle.std.specs.Prelude.{ℕ, ◌+◌, ◌*◌, ◌%◌, ◌≡◌, Bool, true, List, [], ◌∷◌, nat_eq, nat_le, nat_lt, length}
use Rattle.std.specs.List.{list_all}
use Rattle.base.specs.Choice.{pick}
use Rattle.base.specs.Reply.{Reply, accepted, refused}
use Rattle.hex_lines.specs.Digit.{small_digit}
use Rattle.hex_lines.specs.Line.{read_line}
use Rattle.hex_lines.specs.Capitals.{no_capitals}

abbrev pub all_digits_before : List ℕ → Bool
all_digits_before line = list_all (λ c. nat_lt (small_digit c) 16) line

unfoldable pub pairs_before : List ℕ → List ℕ
pairs_before [] = []
pairs_before (c ∷ []) = []
pairs_before (c ∷ d ∷ line) = (small_digit c * 16 + small_digit d) ∷ pairs_before line

-- 1 over 58 characters, 2 a character that was no digit, 3 an odd count of characters: in this order
unfoldable pub read_before : List ℕ → Reply (List ℕ)
read_before line =
    pick (nat_le (length line) 58)
    (pick (all_digits_before line) (pick (nat_eq (length line % 2) 0) (accepted (pairs_before line)) (refused 3)) (refused 2))
    (refused 1)

-- a line without capitals is read as before
abbrev pub AsBefore : Type 0
AsBefore = (line : List ℕ) → no_capitals line ≡ true → read_line line ≡ read_before line
