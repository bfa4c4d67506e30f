-- A field's characters: as many as it is wide, blanks and digits and no LF, and its digits spell its value.
use Rattle.std.proofs.Common.{◌≡◌, ℕ, zero, suc, true, false, ◌+◌, ◌-◌, ◌/◌, ◌%◌, ◌^◌, ◌<◌, ◌≤◌, List, [], ◌∷◌, ◌++◌, All, eqb, length, filter, decimal}
use Rattle.std.proofs.Common.{refl, sym, ap, ◌∙◌, arith, append_assoc, get_or, length-append}
use Rattle.std.proofs.lemmas.List.{get_or-append_right}
use Rattle.std.specs.Char.{is_ascii_digit, digit_value}
use Rattle.std.proofs.lemmas.Bool.Decides.{nat_tests}
use Rattle.std.proofs.lemmas.Fmt.{decimal_by_steps, decimal_is_IsNumeral, length-decimal-le}
use Rattle.std.proofs.lemmas.Int.Digits.{digits_value_push}
use Rattle.std.proofs.lemmas.List.Elements.{filter-append, All-append, All-push, All-replicate, All-nil, All-from_recursion}
use Rattle.sheet.specs.Field.{blank, blanks, right, volts}
use Rattle.sheet.specs.RowClaims.{number_in}
use Rattle.sheet.proofs.FieldLaws.{right_length, right-behind, volts-digits}

-- a digit's character
digit-kept : (d : ℕ) → d < 10 → is_ascii_digit (48 + d) ≡ true
digit-kept d h = grind (arith, nat_tests)

digit-back : (d : ℕ) → d < 10 → digit_value (48 + d) ≡ d
digit-back d h = grind (arith, nat_tests)

-- no LF
abbrev pub Plain : ℕ → Type 0
Plain c = eqb c 10 ≡ false

digit-plain : (d : ℕ) → d < 10 → Plain (48 + d)
digit-plain d h = grind (arith, nat_tests)

-- the characters of a number
digits-kept : (n : ℕ) → n < 2 ^ 64 → filter is_ascii_digit (decimal n) ≡ decimal n
digits-kept n h = decimal_by_steps (λ n ds. filter is_ascii_digit ds ≡ ds) one more n h
  where
    one : (n : ℕ) → n < 10 → filter is_ascii_digit ((48 + n) ∷ []) ≡ (48 + n) ∷ []
    one n h = rw (digit-kept n h) refl

    more : (n : ℕ) (ds : List ℕ) → 10 ≤ n → filter is_ascii_digit ds ≡ ds
        → filter is_ascii_digit (ds ++ (48 + n % 10) ∷ []) ≡ ds ++ (48 + n % 10) ∷ []
    more n ds h e = rw (filter-append is_ascii_digit ds ((48 + n % 10) ∷ []), e, digit-kept (n % 10) (omega arith)) refl

digits-plain : (n : ℕ) → n < 2 ^ 64 → All Plain (decimal n)
digits-plain n h =
    decimal_by_steps (λ n ds. All Plain ds) (λ n h. All-push Plain [] (48 + n) (All-nil Plain) (digit-plain n h))
    (λ n ds h each. All-push Plain ds (48 + n % 10) each (digit-plain (n % 10) (omega arith))) n h

-- blanks before it
blanks-dropped : (n : ℕ) → filter is_ascii_digit (blanks n) ≡ []
blanks-dropped zero = refl
blanks-dropped (suc n) = blanks-dropped n

right-kept : (width : ℕ) (text : List ℕ) → filter is_ascii_digit (right width text) ≡ filter is_ascii_digit text
unfolding right
right-kept width text = let before = width - length text in
    filter-append is_ascii_digit (blanks before) text ∙ ap (λ (l : List ℕ). l ++ filter is_ascii_digit text) (blanks-dropped before)

right-plain : (width : ℕ) (text : List ℕ) → All Plain text → All Plain (right width text)
unfolding right
right-plain width text each = All-append Plain _ text (All-replicate Plain _ blank refl) each

-- a text of so many characters, none of which is an LF
pub record Filled (width : ℕ) (text : List ℕ) : Type 0 where
  pub long : length text ≡ width
  pub plain : All Plain text

-- a number's field, and its value
pub number-filled : (width n : ℕ) → 0 < width → n < 10 ^ width → n < 2 ^ 64 → Filled width (right width (decimal n))
number-filled width n some fits small = record {
  long = right_length width (decimal n) (length-decimal-le width n some fits small);
  plain = right-plain width (decimal n) (digits-plain n small);
}

pub number-spelt : (width n : ℕ) → n < 2 ^ 64 → number_in (right width (decimal n)) ≡ n
number-spelt width n small = rw (right-kept width (decimal n), digits-kept n small) (decimal_is_IsNumeral n small).1

-- a voltage's
module _ (cv : ℕ) (h : cv < 2 ^ 16) where
  pub volts-filled : Filled 6 (right 6 (volts cv))
  volts-filled =
      let front = decimal (cv / 100) in
      let behind = 46 ∷ (48 + cv / 10 % 10) ∷ (48 + cv % 10) ∷ [] in
      let short = length-decimal-le 3 (cv / 100) (omega arith) (omega arith) (omega arith) in
      let last : All Plain behind =
      All-from_recursion Plain behind (refl, (digit-plain (cv / 10 % 10) (omega arith), (digit-plain (cv % 10) (omega arith), tt))) in
      let each = All-append Plain front behind (digits-plain (cv / 100) (omega arith)) last in
      rw (volts-digits cv) record {
        long = right_length 6 (front ++ behind) (simp length-append (omega arith));
        plain = right-plain 6 (front ++ behind) each;
      }

  pub volts-spelt : number_in (right 6 (volts cv)) ≡ cv
  volts-spelt =
      let front = decimal (cv / 100) in
      let tenths = 48 + cv / 10 % 10 in
      let hundredths = 48 + cv % 10 in
      let kept : filter is_ascii_digit (volts cv) ≡ (front ++ tenths ∷ []) ++ hundredths ∷ [] =
      rw (volts-digits cv) (filter-append is_ascii_digit front (46 ∷ tenths ∷ hundredths ∷ [])
      ∙ rw (digits-kept (cv / 100) (omega arith), digit-kept (cv / 10 % 10) (omega arith), digit-kept (cv % 10) (omega arith))
      (sym (append_assoc front (tenths ∷ []) (hundredths ∷ [])))) in
      rw (
        right-kept 6 (volts cv),
        kept,
        digits_value_push 10 (front ++ tenths ∷ []) hundredths,
        digits_value_push 10 front tenths,
        (decimal_is_IsNumeral (cv / 100) (omega arith)).1,
        digit-back (cv / 10 % 10) (omega arith),
        digit-back (cv % 10) (omega arith),
      ) (omega arith)

  -- its point is the fourth character
  pub volts-point : get_or (right 6 (volts cv)) 3 0 ≡ 46
  volts-point =
      let front = decimal (cv / 100) in
      let behind = 46 ∷ (48 + cv / 10 % 10) ∷ (48 + cv % 10) ∷ [] in
      let short = length-decimal-le 3 (cv / 100) (omega arith) (omega arith) (omega arith) in
      rw (volts-digits cv, right-behind 3 3 front behind short refl)
      (get_or-append_right (right 3 front) behind 3 3 0 (right_length 3 front short) (omega arith))
