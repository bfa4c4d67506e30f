-- The digits once more, as they are typed: what `value_of`, `is_capital` and `small` are held to (document 02, Q-1).
use Rattle.std.specs.Prelude.{ℕ, ◌≡◌, ◌==◌, Bool, List, Option, codes, position, is_some, option_map, unwrap_or, slice_index}
use Rattle.std.specs.Option.{option_or}
use Rattle.hex_lines.specs.Digit.{value_of, is_capital, small}

abbrev pub small_row : List ℕ
small_row = codes "0123456789abcdef"

abbrev pub capital_row : List ℕ
capital_row = codes "0123456789ABCDEF"

abbrev pub small_letters : List ℕ
small_letters = codes "abcdef"

abbrev pub capital_letters : List ℕ
capital_letters = codes "ABCDEF"

-- the place of a character in a row
abbrev pub place_in : List ℕ → ℕ → Option ℕ
place_in row c = position (λ d. c == d) row

-- the place in either row; none of a character that is in neither
unfoldable pub typed_value : ℕ → Option ℕ
typed_value c = option_or (place_in small_row c) (place_in capital_row c)

unfoldable pub typed_capital : ℕ → Bool
typed_capital c = is_some (place_in capital_letters c)

-- the letter at a capital's place; any other character as it is
unfoldable pub typed_small : ℕ → ℕ
typed_small c = unwrap_or (option_map (slice_index small_letters) (place_in capital_letters c)) c

-- 'Take A-F as well as a-f. A to F mean what a to f do': the value of each character, which are capitals, and the letter of each
pub record TypedDigits : Type 0 where
  pub value : (c : ℕ) → value_of c ≡ typed_value c
  pub capital : (c : ℕ) → is_capital c ≡ typed_capital c
  pub letter : (c : ℕ) → small c ≡ typed_small c
