-- What is printed has no capitals: the character of a value stands below them or above.
use Rattle.std.proofs.Common.{◌≡◌, ℕ, ◌/◌, ◌%◌, true, List, [], ◌∷◌, ◌++◌, refl, arith}
use Rattle.std.proofs.lemmas.List.Folds.{list_any-append}
use Rattle.hex_lines.specs.Digit.{is_capital}
use Rattle.hex_lines.specs.Line.{line_end, hex_of, printed_line}
use Rattle.hex_lines.specs.Capitals.{no_capitals}
use Rattle.hex_lines.proofs.DigitLaws.{glyph-small}

pub none-joined : (a b : List ℕ) → no_capitals a ≡ true → no_capitals b ≡ true → no_capitals (a ++ b) ≡ true
none-joined a b e f = grind (arith, list_any-append is_capital a b)

hex-small : (bytes : List ℕ) → no_capitals (hex_of bytes) ≡ true
unfolding hex_of
hex-small [] = refl
hex-small (b ∷ bytes) = rw (glyph-small (b / 16), glyph-small (b % 16)) (hex-small bytes)

pub line-small : (bytes : List ℕ) → no_capitals (printed_line bytes) ≡ true
unfolding printed_line
line-small bytes = none-joined (hex_of bytes) (line_end ∷ []) (hex-small bytes) refl
