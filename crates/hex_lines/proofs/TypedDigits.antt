-- Digits are as they are typed: of the characters up to f by one list of all of them, and above f there is none.
use Rattle.std.proofs.Common.{◌≡◌, ℕ, ◌<◌, true, false, eqb, ltb, None, List, [], ◌∷◌, map, get_or, position, refl, sym, ap, ◌∙◌}
use Rattle.std.proofs.Common.{arith, zero-add}
use Rattle.std.proofs.lemmas.Bool.Decides.{nat_tests}
use Rattle.std.proofs.lemmas.List.FromFn.{get_or-map-range_with_len}
use Rattle.std.specs.List.{list_all, range_with_len}
use Rattle.base.proofs.ByCases.{below_or_not}
use Rattle.hex_lines.specs.Digit.{small_digit, is_capital, small, digit_of, value_of}
use Rattle.hex_lines.specs.TypedDigits.{small_row, capital_row, capital_letters, typed_value, typed_capital, typed_small, TypedDigits}
use Rattle.hex_lines.proofs.DigitLaws.{none-above}
use Rattle.hex_lines.proofs.SmallLaws.{small-other}

-- two functions with one list of their values below n
same : {X : Type 0} (f g : ℕ → X) (n : ℕ) → map f (range_with_len 0 n) ≡ map g (range_with_len 0 n) → (c : ℕ) → c < n → f c ≡ g c
same f g n e c h =
    sym (get_or-map-range_with_len f 0 n c c (f 0) h (zero-add c))
    ∙ ap (λ l. get_or l c (f 0)) e
    ∙ get_or-map-range_with_len g 0 n c c (f 0) h (zero-add c)

module _ (c : ℕ) (up_to_f : c < 0x67) where
  value-below : value_of c ≡ typed_value c
  unfolding value_of digit_of small small_digit typed_value
  value-below = same value_of typed_value 0x67 refl c up_to_f

  capital-below : is_capital c ≡ typed_capital c
  unfolding typed_capital
  capital-below = same is_capital typed_capital 0x67 refl c up_to_f

  letter-below : small c ≡ typed_small c
  unfolding small typed_small
  letter-below = same small typed_small 0x67 refl c up_to_f

-- a character above f is in no row of others
past : (c : ℕ) → 0x66 < c → (row : List ℕ) → list_all (λ d. ltb d 0x67) row ≡ true → position (λ d. eqb c d) row ≡ None
past c h [] e = refl
past c h (d ∷ row) e = grind (arith, nat_tests, past c h row)

module _ (c : ℕ) (above_f : 0x66 < c) where
  no-capital : is_capital c ≡ false
  no-capital = grind (arith, nat_tests)

  value-above : value_of c ≡ typed_value c
  unfolding typed_value
  value-above = none-above c above_f ∙ rw (past c above_f small_row refl, past c above_f capital_row refl)

  capital-above : is_capital c ≡ typed_capital c
  unfolding typed_capital
  capital-above = no-capital ∙ rw (past c above_f capital_letters refl)

  letter-above : small c ≡ typed_small c
  unfolding typed_small
  letter-above = small-other c no-capital ∙ rw (past c above_f capital_letters refl)

pub typed-digits : TypedDigits
typed-digits =
    record {
      value = λ c. below_or_not c 0x67 (value-below c) (value-above c);
      capital = λ c. below_or_not c 0x67 (capital-below c) (capital-above c);
      letter = λ c. below_or_not c 0x67 (letter-below c) (letter-above c);
    }
