-- Digits by computation: the capitals, the characters beside the letters, and what is printed.
use Rattle.std.proofs.Common.{◌≡◌, [], ◌∷◌, map, refl}
use Rattle.std.specs.Prelude.{codes}
use Rattle.hex_lines.specs.Digit.{small_digit, small, digit_of, glyph_of}

pub record DigitCases : Type 0 where
  pub capitals : map digit_of (codes "ABCDEF") ≡ 10 ∷ 11 ∷ 12 ∷ 13 ∷ 14 ∷ 15 ∷ []
  pub beside : map digit_of (codes "@G`g") ≡ 16 ∷ 16 ∷ 16 ∷ 16 ∷ []
  -- before, capitals were no digits
  pub before : map small_digit (codes "@AFG`afg") ≡ 16 ∷ 16 ∷ 16 ∷ 16 ∷ 16 ∷ 10 ∷ 15 ∷ 16 ∷ []
  pub lowers : map small (codes "09@ABCDEFGZ`afgz") ≡ codes "09@abcdefGZ`afgz"
  pub printed : map glyph_of (0 ∷ 1 ∷ 2 ∷ 3 ∷ 4 ∷ 5 ∷ 6 ∷ 7 ∷ 8 ∷ 9 ∷ 10 ∷ 11 ∷ 12 ∷ 13 ∷ 14 ∷ 15 ∷ []) ≡ codes "0123456789abcdef"

pub digit-cases : DigitCases
unfolding digit_of small_digit small glyph_of
digit-cases = record { capitals = refl; beside = refl; before = refl; lowers = refl; printed = refl }
