-- A line that is read character by character tells what it tells as a whole: two characters at a time, behind the bytes before them.
use Rattle.std.proofs.Common.{◌≡◌, ℕ, ◌+◌, ◌*◌, ◌%◌, ◌≤◌, Bool, true, false, ◌&&◌, leb, eqb, List, [], ◌∷◌, ◌++◌}
use Rattle.std.proofs.Common.{Option, Some, None, length, refl, sym, ◌∙◌, arith, zero-add, append_assoc, append-nil, length-append}
use Rattle.std.proofs.lemmas.Bool.Decides.{nat_tests}
use borrow.Author.Tests.{lt-ltb, le-ltb}
use Rattle.std.specs.List.{fold}
use Rattle.base.specs.Choice.{pick}
use Rattle.base.proofs.ByCases.{below_or_not}
use Rattle.hex_lines.specs.Digit.{pair_of}
use Rattle.hex_lines.specs.Line.{all_digits, pairs}
use Rattle.hex_lines.proofs.PairsLaws.{pair_read, no_pair}
use Rattle.esc_answers.specs.Answer.{longest_answer}
use Rattle.answer_lines.specs.Told.{told_by}
use Rattle.answer_lines.specs.AnswerLine.{widest_answer, line_bytes, bytes_tell, line_tells, Kept, bytes_kept, kept_of}
use Rattle.answer_lines.specs.AnswerLine.{with_byte, with_second, with_character, told_at_end}
use Rattle.answer_lines.specs.declared.told.Told.{Told}
use Rattle.answer_lines.specs.declared.told.Told.TheVariants as told

-- a line that is faulty stays so
faulty_more : (k : Kept) (c : ℕ) → k.faulty ≡ true → (with_character k c).faulty ≡ true
unfolding with_character with_byte
faulty_more k c e = go k.begun
  where
    put : (byte : Option ℕ) → (with_byte k byte).faulty ≡ true
    put None = refl
    put (Some b) = below_or_not (length k.bytes) longest_answer (λ h. grind (arith, nat_tests)) (λ h. grind (arith, nat_tests))

    go : (begun : Option ℕ) → (with_second k begun c).faulty ≡ true
    go None = e
    go (Some first) = put (pair_of first c)

faulty_all : (line : List ℕ) (k : Kept) → k.faulty ≡ true → told_at_end (fold with_character k line) ≡ told.NoAnswer
unfolding told_at_end
faulty_all [] k e = rw e
faulty_all (c ∷ line) k e = faulty_all line (with_character k c) (faulty_more k c e)

-- what a line tells that begins with these bytes
tells_from : List ℕ → List ℕ → Told
tells_from bytes line =
    pick (leb (2 * length bytes + length line) widest_answer && (all_digits line && eqb (length line % 2) 0)) (told_by (bytes ++ pairs line))
    told.NoAnswer

faulty_from : (bytes line : List ℕ) → told_at_end (fold with_character (record { bytes = bytes; begun = None; faulty = true }) line) ≡ told.NoAnswer
faulty_from bytes line = faulty_all line _ refl

module _ (bytes : List ℕ) (c d : ℕ) (line : List ℕ) where
  tells-other : pair_of c d ≡ None → tells_from bytes (c ∷ d ∷ line) ≡ told.NoAnswer
  unfolding tells_from
  tells-other e = rw (no_pair c d line e) (grind (arith, nat_tests))

  tells_wide : longest_answer ≤ length bytes → tells_from bytes (c ∷ d ∷ line) ≡ told.NoAnswer
  unfolding tells_from
  tells_wide h = grind (arith, nat_tests)

  tells-more : (v : ℕ) → pair_of c d ≡ Some v → tells_from bytes (c ∷ d ∷ line) ≡ tells_from (bytes ++ v ∷ []) line
  unfolding tells_from pairs
  tells-more v e =
      let two = pair_read c d v e in
      let room : 2 * length (bytes ++ v ∷ []) + length line ≡ 2 * length bytes + length (c ∷ d ∷ line) = omega (arith, length-append bytes (v ∷ [])) in
      let even : length (c ∷ d ∷ line) % 2 ≡ length line % 2 = omega arith in
      rw (two.digits line, room, append_assoc, two.value, even)

-- the two characters put their byte behind, or the line is faulty
tells-two : (bytes : List ℕ) (c d : ℕ) (line : List ℕ) → length bytes ≤ longest_answer
    → ((v : ℕ) → length (bytes ++ v ∷ []) ≤ longest_answer
    → told_at_end (fold with_character (bytes_kept (bytes ++ v ∷ [])) line) ≡ tells_from (bytes ++ v ∷ []) line)
    → told_at_end (fold with_character (with_byte (record { bytes = bytes; begun = Some c; faulty = false }) (pair_of c d)) line)
    ≡ tells_from bytes (c ∷ d ∷ line)
unfolding with_byte
tells-two bytes c d line h later = go (pair_of c d) refl
  where
    go : (byte : Option ℕ) → pair_of c d ≡ byte
        → told_at_end (fold with_character (with_byte (record { bytes = bytes; begun = Some c; faulty = false }) byte) line)
        ≡ tells_from bytes (c ∷ d ∷ line)
    go None e = faulty_from bytes line ∙ sym (tells-other bytes c d line e)
    go (Some v) e =
        below_or_not (length bytes) longest_answer
        (λ room. rw (lt-ltb _ _ room) (later v (omega (arith, length-append bytes (v ∷ []))) ∙ sym (tells-more bytes c d line v e)))
        (λ full. rw (le-ltb _ _ full) (faulty_from bytes line ∙ sym (tells_wide bytes c d line full)))

tells-all : (bytes line : List ℕ) → length bytes ≤ longest_answer
    → told_at_end (fold with_character (bytes_kept bytes) line) ≡ tells_from bytes line
unfolding told_at_end with_character tells_from all_digits pairs
tells-all bytes [] h = rw append-nil (grind (arith, nat_tests))
tells-all bytes (c ∷ []) h = grind (arith, nat_tests)
tells-all bytes (c ∷ d ∷ line) h = tells-two bytes c d line h (λ v room. tells-all (bytes ++ v ∷ []) line room)

line-tells-from : (line : List ℕ) → tells_from [] line ≡ line_tells line
unfolding tells_from line_tells line_bytes
line-tells-from line = rw zero-add (by (leb (length line) widest_answer && (all_digits line && eqb (length line % 2) 0)))
  where
    by : (test : Bool) → pick test (told_by (pairs line)) told.NoAnswer ≡ bytes_tell (pick test (Some (pairs line)) None)
    by true = refl
    by false = refl

pub whole-line : (line : List ℕ) → told_at_end (kept_of line) ≡ line_tells line
whole-line line = tells-all [] line (omega arith) ∙ line-tells-from line
