-- A reading stands for the characters that were taken of a line: what a loop over characters carries, and what it knows at the line's end.
use Rattle.std.proofs.Common.{◌≡◌, ℕ, true, ltb, List, [], ◌∷◌, ◌++◌}
use Rattle.std.proofs.Common.{Option, Some, None, length, refl, sym, ap, ◌∙◌, arith, length-append}
use Rattle.std.proofs.lemmas.Bool.Decides.{nat_tests}
use Rattle.std.proofs.lemmas.List.Sums.{fold_push}
use borrow.Author.Tests.{lt-ltb}
use Rattle.std.specs.List.{fold}
use Rattle.base.proofs.ByCases.{below_or_not}
use Rattle.hex_lines.specs.Digit.{pair_of}
use Rattle.esc_answers.specs.Answer.{longest_answer}
use Rattle.answer_lines.specs.AnswerLine.{line_tells, Kept, nothing_kept, kept_of, Reads, any_taken}
use Rattle.answer_lines.specs.AnswerLine.{with_byte, with_second, with_character, told_at_end}
use Rattle.answer_lines.specs.Claims.{ReadByCharacter}
use Rattle.answer_lines.proofs.LineTold.{whole-line}

-- a character taken is seen, and the ones before it
taken_more : (k : Kept) (c : ℕ) → any_taken (with_character k c) ≡ true
unfolding any_taken with_character with_byte
taken_more k c = go k.begun
  where
    put : (byte : Option ℕ) → any_taken (with_byte k byte) ≡ true
    put None = refl
    put (Some b) =
        below_or_not (length k.bytes) longest_answer
        (λ h. grind (arith, nat_tests, length-append k.bytes (b ∷ [])))
        (λ h. grind (arith, nat_tests))

    go : (begun : Option ℕ) → any_taken (with_second k begun c) ≡ true
    go None = grind (arith, nat_tests)
    go (Some first) = put (pair_of first c)

taken_all : (line : List ℕ) (k : Kept) → any_taken k ≡ true → any_taken (fold with_character k line) ≡ true
taken_all [] k e = e
taken_all (c ∷ line) k e = taken_all line (with_character k c) (taken_more k c)

taken_any : (line : List ℕ) → any_taken (kept_of line) ≡ ltb 0 (length line)
unfolding any_taken
taken_any [] = refl
taken_any (c ∷ line) = taken_all line _ (taken_more nothing_kept c) ∙ sym (lt-ltb 0 (length (c ∷ line)) (omega arith))

pub read-by-character : ReadByCharacter
read-by-character = record { tells = whole-line; begun = taken_any }

-- What a loop over characters carries: a reading that has taken these. No character is taken at first and after an end; one more is; and
-- what `is_begun` and `end` answer then.
pub reads_none : {k : Kept} → k ≡ nothing_kept → Reads k []
reads_none e = record { kept = e }

pub reads_more : {k after : Kept} {line : List ℕ} (c : ℕ) → Reads k line → after ≡ with_character k c → Reads after (line ++ c ∷ [])
reads_more {k} {after} {line} c r e = record { kept = e ∙ rw (fold_push with_character nothing_kept line c, r.kept) }

pub reads-begun : {k : Kept} {line : List ℕ} → Reads k line → any_taken k ≡ ltb 0 (length line)
reads-begun {k} {line} r = ap any_taken r.kept ∙ read-by-character.begun line

pub reads-told : {k : Kept} {line : List ℕ} → Reads k line → told_at_end k ≡ line_tells line
reads-told {k} {line} r = ap told_at_end r.kept ∙ read-by-character.tells line
