-- A record printed in hexadecimal is read again as the same bytes.
use mathlib.Core.Path.{◌≡◌, refl, ap, ◌∙◌}
use mathlib.Core.Bool.{true}
use mathlib.Core.List.{List, [], ◌∷◌}
use Prim.Native.Nat.{ℕ, suc, ◌+◌, ◌*◌, ◌/◌, ◌%◌, ◌≤◌, ◌<◌}
use native.Mathlib.Omega.{arith}
use lib.ListN.{length, get_or}
use Rattle.base.specs.Reply.{accepted}
use Rattle.hex_lines.specs.Digit.{digit_of, glyph_of}
use Rattle.hex_lines.specs.Line.{all_digits, pairs, hex_of, read_line, longest_record}
use Rattle.hex_lines.proofs.DigitLaws.{digit-of-glyph}
use Rattle.hex_lines.proofs.LineLaws.{all-good, read_whole}
use Rattle.hex_lines.proofs.PrintLaws.{hex-length}

abbrev Bytes : List ℕ → Type 0
Bytes bytes = (i : ℕ) → i < length bytes → get_or bytes i 0 < 256

module _ (b : ℕ) (byte : b < 256) where
  high : digit_of (glyph_of (b / 16)) ≡ b / 16
  high = digit-of-glyph (b / 16) (omega arith)

  low : digit_of (glyph_of (b % 16)) ≡ b % 16
  low = digit-of-glyph (b % 16) (omega arith)

  whole : digit_of (glyph_of (b / 16)) * 16 + digit_of (glyph_of (b % 16)) ≡ b
  whole = rw (high, low) (omega arith)

later : (b : ℕ) (bytes : List ℕ) → Bytes (b ∷ bytes) → Bytes bytes
later b bytes h i l = h (suc i) (omega arith)

all_digits-hex_of : (bytes : List ℕ) → Bytes bytes → all_digits (hex_of bytes) ≡ true
unfolding all_digits hex_of
all_digits-hex_of [] h = refl
all_digits-hex_of (b ∷ bytes) h =
    let byte : b < 256 = h 0 (omega arith) in
    all-good (glyph_of (b / 16)) (glyph_of (b % 16) ∷ hex_of bytes) (omega (arith, high b byte))
    ∙ all-good (glyph_of (b % 16)) (hex_of bytes) (omega (arith, low b byte))
    ∙ all_digits-hex_of bytes (later b bytes h)

pairs-of-hex : (bytes : List ℕ) → Bytes bytes → pairs (hex_of bytes) ≡ bytes
unfolding pairs hex_of
pairs-of-hex [] h = refl
pairs-of-hex (b ∷ bytes) h = rw (whole b (h 0 (omega arith)), pairs-of-hex bytes (later b bytes h))

pub read-printed : (bytes : List ℕ) → Bytes bytes → length bytes ≤ longest_record → read_line (hex_of bytes) ≡ accepted bytes
read-printed bytes h l =
    read_whole (hex_of bytes) (omega (arith, hex-length bytes)) (all_digits-hex_of bytes h) (omega (arith, hex-length bytes))
    ∙ ap accepted (pairs-of-hex bytes h)
