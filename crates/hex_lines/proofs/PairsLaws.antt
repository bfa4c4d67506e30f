-- Characters two by two: their byte, or that they are not both digits; digits, and so no LF; two digits more.
use Rattle.std.proofs.Common.{◌≡◌, ℕ, ◌+◌, ◌*◌, ◌%◌, true, false, List, [], ◌∷◌, ◌++◌, Some, None, length, refl, sym, ap, ◌∙◌, arith}
use Rattle.std.proofs.lemmas.Bool.Decides.{nat_tests}
use mathlib.Core.Bool.{false≢true}
use Rattle.base.proofs.Both.{and_left, and_right}
use Rattle.hex_lines.specs.Digit.{small_digit, small, digit_of, is_digit, pair_of}
use Rattle.hex_lines.specs.Line.{all_digits, pairs}
use Rattle.hex_lines.proofs.Unended.{Unended}

pub all_digits-append : (a b : List ℕ) → all_digits a ≡ true → all_digits (a ++ b) ≡ all_digits b
unfolding all_digits
all_digits-append [] b e = refl
all_digits-append (c ∷ a) b e = rw (and_left (is_digit c) _ e) (all_digits-append a b (and_right (is_digit c) _ e))

-- two digits and their byte
pub record TwoDigits (c d v : ℕ) : Type 0 where
  pub digits : (more : List ℕ) → all_digits (c ∷ d ∷ more) ≡ all_digits more
  pub value : v ≡ digit_of c * 16 + digit_of d

module _ (c d : ℕ) where
  pub pair_read : (v : ℕ) → pair_of c d ≡ Some v → TwoDigits c d v
  unfolding pair_of all_digits
  pair_read v e = record { digits = λ more. grind (arith, nat_tests); value = grind (arith, nat_tests) }

  pub no_pair : (more : List ℕ) → pair_of c d ≡ None → all_digits (c ∷ d ∷ more) ≡ false
  unfolding pair_of all_digits
  no_pair more e = grind (arith, nat_tests)

-- LF is no digit
pub unended-digits : (line : List ℕ) → all_digits line ≡ true → Unended line
unfolding all_digits digit_of small small_digit
unended-digits [] e = tt
unended-digits (c ∷ line) e =
    (λ lf. false≢true (sym (ap is_digit lf) ∙ and_left (is_digit c) _ e), unended-digits line (and_right (is_digit c) _ e))

pub pairs-two : (c d : ℕ) (line : List ℕ) → length line % 2 ≡ 0 → pairs (line ++ c ∷ d ∷ []) ≡ pairs line ++ (digit_of c * 16 + digit_of d) ∷ []
unfolding pairs
pairs-two c d [] e = refl
pairs-two c d (a ∷ []) e = absurd (omega arith)
pairs-two c d (a ∷ b ∷ line) e = ap (λ (l : List ℕ). (digit_of a * 16 + digit_of b) ∷ l) (pairs-two c d line (omega arith))
