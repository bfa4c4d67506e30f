-- Lines by computation, as a whole and character by character: small letters and capitals, and what is no answer's line.
use Rattle.std.proofs.Common.{◌≡◌, ℕ, List, [], ◌∷◌, map, replicate, refl}
use Rattle.std.specs.Prelude.{codes}
use Rattle.hex_lines.specs.Digit.{small_digit, small, digit_of, pair_of}
use Rattle.hex_lines.specs.Line.{all_digits, pairs}
use Rattle.base.proofs.Rising.{rising}
use Rattle.answer_lines.specs.Form.{has_form, fits_one}
use Rattle.answer_lines.specs.Told.{told_by}
use Rattle.answer_lines.specs.AnswerLine.{line_bytes, line_tells, with_byte, with_character, kept_of, told_at_end}
use Rattle.answer_lines.specs.declared.told.Told.{Told}
use Rattle.answer_lines.specs.declared.told.Told.TheVariants as told

-- a delivery in small letters, and with capitals; the longest answer; a refusal; no character; half a byte; no digit, at either place; a byte
-- too many, of which the first 43 are an answer
abbrev lines : List (List ℕ)
lines =
    codes "000201a1a2a3a4a5a6a7a8a9aaabacadaeafb0b1b2b3b4b502"
    ∷ codes "000201A1A2A3A4A5A6A7A8A9AAABACADAEAFB0B1B2B3B4B502"
    ∷ replicate 86 0x30
    ∷ codes "0C"
    ∷ []
    ∷ codes "0"
    ∷ codes "000"
    ∷ codes "g0"
    ∷ codes "0G"
    ∷ codes "00 00"
    ∷ replicate 88 0x30
    ∷ []

abbrev tell : List Told
tell =
    told.Sample (0x01 ∷ rising 21 0xa1)
    ∷ told.Sample (0x01 ∷ rising 21 0xa1)
    ∷ told.Other
    ∷ told.Other
    ∷ replicate 7 told.NoAnswer

pub record AnswerLineCases : Type 0 where
  pub whole : map line_tells lines ≡ tell
  pub taken : map (λ line. told_at_end (kept_of line)) lines ≡ tell

pub answer-line-cases : AnswerLineCases
unfolding line_bytes line_tells with_byte with_character told_at_end told_by has_form fits_one all_digits pairs pair_of digit_of small small_digit
answer-line-cases = record { whole = refl; taken = refl }
