-- The digits of a line: 0-9, a-f and A-F when it is read, 0-9 and a-f when it is printed (document 01; for A-F document 02, Q-1).
use Rattle.std.specs.Prelude.{ℕ, ◌+◌, ◌*◌, ◌-◌, ◌<◌, ◌≡◌, Bool, ◌&&◌, List, Option, Some, None, nat_le, nat_lt, slice_index_or}
use Rattle.base.specs.Choice.{pick}

abbrev between : ℕ → ℕ → ℕ → Bool
between low c high = nat_le low c && nat_le c high

-- document 01: the value of 0-9 and a-f, and 16 of any other character
unfoldable pub small_digit : ℕ → ℕ
small_digit c = pick (between 0x30 c 0x39) (c - 0x30) (pick (between 0x61 c 0x66) (c - 0x61 + 10) 16)

-- A to F
abbrev pub is_capital : ℕ → Bool
is_capital c = between 0x41 c 0x46

-- A-F as the small letter; any other character as it is
unfoldable pub small : ℕ → ℕ
small c = pick (is_capital c) (c + 0x20) c

-- 'A to F mean what a to f do, and refusal 2 is left for other characters': the value of a character, and 16 of one that is no digit
unfoldable pub digit_of : ℕ → ℕ
digit_of c = small_digit (small c)

abbrev pub is_digit : ℕ → Bool
is_digit c = nat_lt (digit_of c) 16

-- the byte of two digits, the high one first; none of two characters that are not both digits
unfoldable pub pair_of : ℕ → ℕ → Option ℕ
pair_of c d = pick (is_digit c && is_digit d) (Some (digit_of c * 16 + digit_of d)) None

-- the digit of a value below 16; 'answers are still printed small'
unfoldable pub glyph_of : ℕ → ℕ
glyph_of v = pick (nat_lt v 10) (v + 0x30) (v - 10 + 0x61)

-- the value of a digit; none of any other character
unfoldable pub value_of : ℕ → Option ℕ
value_of c = pick (is_digit c) (Some (digit_of c)) None

-- a table of digits: at each character stands its value
pub record DigitTabled (table : List (Option ℕ)) : Type 0 where
  pub rule : (c : ℕ) → c < 256 → slice_index_or table c None ≡ value_of c
