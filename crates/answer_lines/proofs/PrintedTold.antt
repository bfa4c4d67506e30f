-- The characters that are printed of bytes are read as these bytes, one after the other.
use Rattle.std.proofs.Common.{◌≡◌, ℕ, ◌+◌, ◌/◌, ◌%◌, ◌<◌, ◌≤◌, true, ltb, List, [], ◌∷◌, ◌++◌, Some, length, sym, ap, ◌∙◌}
use Rattle.std.proofs.Common.{arith, append_assoc, append-nil, length-append, ltb-true}
use Rattle.std.proofs.lemmas.Bool.Decides.{nat_tests}
use borrow.Author.Tests.{lt-ltb}
use Rattle.std.specs.List.{fold}
use Rattle.base.specs.Bytes.{are_bytes}
use Rattle.base.proofs.Both.{and_left, and_right}
use Rattle.hex_lines.specs.Digit.{glyph_of, pair_of}
use Rattle.hex_lines.specs.Line.{hex_of}
use Rattle.hex_lines.proofs.DigitLaws.{digit-of-glyph}
use Rattle.esc_answers.specs.Answer.{longest_answer}
use Rattle.answer_lines.specs.AnswerLine.{Kept, bytes_kept, with_byte, with_character, told_at_end}
use Rattle.answer_lines.specs.Claims.{PrintedTold}
use Rattle.answer_lines.proofs.AnswerLineLaws.{read-by-character}

glyphs-pair : (b : ℕ) → b < 256 → pair_of (glyph_of (b / 16)) (glyph_of (b % 16)) ≡ Some b
unfolding pair_of
glyphs-pair b h = grind (arith, nat_tests, digit-of-glyph (b / 16) (omega arith), digit-of-glyph (b % 16) (omega arith))

-- two characters more, and their byte
byte-taken : (before : List ℕ) (b : ℕ) → b < 256 → length before < longest_answer
    → with_character (with_character (bytes_kept before) (glyph_of (b / 16))) (glyph_of (b % 16)) ≡ bytes_kept (before ++ b ∷ [])
unfolding with_character with_byte
byte-taken before b h room = rw (glyphs-pair b h, lt-ltb _ _ room)

bytes-taken : (s before : List ℕ) → are_bytes s ≡ true → length before + length s ≤ longest_answer
    → fold with_character (bytes_kept before) (hex_of s) ≡ bytes_kept (before ++ s)
unfolding hex_of are_bytes
bytes-taken [] before bytes room = ap bytes_kept (sym (append-nil before))
bytes-taken (b ∷ s) before bytes room =
    ap (λ (k : Kept). fold with_character k (hex_of s)) (byte-taken before b (ltb-true b 256 (and_left (ltb b 256) _ bytes)) (omega arith))
    ∙ bytes-taken s (before ++ b ∷ []) (and_right (ltb b 256) _ bytes) (omega (arith, length-append before (b ∷ [])))
    ∙ ap bytes_kept (append_assoc before (b ∷ []) s)

pub printed-told : PrintedTold
unfolding told_at_end
printed-told s bytes room = sym (read-by-character.tells (hex_of s)) ∙ ap told_at_end (bytes-taken s [] bytes (omega arith))
