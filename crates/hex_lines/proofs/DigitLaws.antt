-- The digit of a value has that value, and is no capital; before 0 and above f no character has one.
use Rattle.std.proofs.Common.{◌≡◌, ℕ, ◌<◌, false, None, arith}
use Rattle.std.proofs.lemmas.Bool.Decides.{nat_tests}
use Rattle.hex_lines.specs.Digit.{small_digit, is_capital, small, digit_of, glyph_of, value_of}

pub digit-of-glyph : (v : ℕ) → v < 16 → digit_of (glyph_of v) ≡ v
unfolding digit_of small small_digit glyph_of
digit-of-glyph v h = grind (arith, nat_tests)

pub glyph-small : (v : ℕ) → is_capital (glyph_of v) ≡ false
unfolding glyph_of
glyph-small v = grind (arith, nat_tests)

pub none-below : (c : ℕ) → c < 0x30 → value_of c ≡ None
unfolding value_of digit_of small small_digit
none-below c h = grind (arith, nat_tests)

pub none-above : (c : ℕ) → 0x66 < c → value_of c ≡ None
unfolding value_of digit_of small small_digit
none-above c h = grind (arith, nat_tests)
