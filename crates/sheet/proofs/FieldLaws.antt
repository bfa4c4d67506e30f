-- The digits of a number are those before the last, and the last; what is written of them so far stands at the end of the field.
use Rattle.std.proofs.Common.{◌≡◌, ℕ, zero, suc, false, ◌+◌, ◌-◌, ◌/◌, ◌%◌, ◌^◌, ◌<◌, ◌≤◌, List, [], ◌∷◌, ◌++◌}
use Rattle.std.proofs.Common.{◌==◌, take, drop, length, get_or, set, decimal, refl, ap, sym, ◌∙◌, arith}
use Rattle.std.proofs.Common.{ne_eqb, eq-eqb, add-one, append_assoc, take-append-drop, take-take, length-append}
use Rattle.std.proofs.lemmas.Bool.{cases_lt}
use Rattle.std.proofs.lemmas.List.{drop-set, take-set, take-replicate, drop_all, length-replicate, length-set, length-drop}
use Rattle.std.proofs.lemmas.Fmt.{decimal_digit, decimal_step, length-decimal-le}
use mathlib.Core.Logic.{◌⊎◌, inl, inr}
use Rattle.base.specs.Choice.{pick}
use Rattle.sheet.specs.Field.{blank, blanks, right, volts}

-- the digits before the last one
abbrev pub before : ℕ → List ℕ
before n = pick (n == 0) [] (decimal n)

last-digit : (n : ℕ) → n < 2 ^ 64 → decimal n ≡ before (n / 10) ++ (48 + n % 10) ∷ []
last-digit n h = by (cases_lt n 10)
  where
    by : (n < 10) ⊎ (10 ≤ n) → decimal n ≡ before (n / 10) ++ (48 + n % 10) ∷ []
    by (inl one) =
        let none : n / 10 ≡ 0 = omega arith in
        let same : n % 10 ≡ n = omega arith in
        rw (eq-eqb (n / 10) 0 none, same) (decimal_digit n one)
    by (inr more) = rw (ne_eqb (n / 10) 0 (λ e. omega arith)) (decimal_step n more h)

-- a text that is no longer than its field takes the whole of it
pub right_length : (width : ℕ) (text : List ℕ) → length text ≤ width → length (right width text) ≡ width
unfolding right
right_length width text h = simp (length-append, length-replicate) (omega arith)

-- what stands behind a text at the right end stands at the right end of so many more
pub right-behind : (width n : ℕ) (text more : List ℕ) → length text ≤ width → length more ≡ n → right (width + n) (text ++ more) ≡ right width text ++ more
unfolding right
right-behind width n text more h e =
    let room : width + n - length (text ++ more) ≡ width - length text = simp length-append (omega arith) in
    rw room (sym (append_assoc (blanks (width - length text)) text more))

-- a field of W characters, written from place `at` on; what is left of the number fits before it
pub record Written (W number : ℕ) (field : List ℕ) (at rest : ℕ) : Type 0 where
  pub fits : rest < 10 ^ at
  pub small : rest < 2 ^ 64
  pub within : at < W
  pub long : length field ≡ W
  pub blank : take at field ≡ blanks at
  pub digits : before rest ++ drop at field ≡ decimal number

-- a blank field with the last digit set
pub written-first : (j number digit : ℕ) → number < 10 ^ suc j → number < 2 ^ 64 → digit ≡ 48 + number % 10
    → Written (suc j) number (set (blanks (suc j)) j digit) j (number / 10)
written-first j number digit fits small is =
    let long : length (blanks (suc j)) ≡ suc j = length-replicate (suc j) blank in
    let room : j < length (blanks (suc j)) = omega (arith, long) in
    record {
      fits = omega (arith, fits);
      small = omega arith;
      within = omega arith;
      long = rw (length-set (blanks (suc j)) j digit) long;
      blank = take-set (blanks (suc j)) j digit ∙ take-replicate j (suc j) blank (omega arith);
      digits = rw (drop-set (blanks (suc j)) j digit room, drop_all (j + 1) (blanks (suc j)) (omega (arith, long)), is) (sym (last-digit number small));
    }

-- a digit more
pub written-more : (W number : ℕ) (field : List ℕ) (j rest digit : ℕ) → Written W number field (suc j) rest → 0 < rest → digit ≡ 48 + rest % 10
    → Written W number (set field j digit) j (rest / 10)
written-more W number field j rest digit w some is =
    let room : j < length field = omega (arith, w.within, w.long) in
    let none : (rest == 0) ≡ false = ne_eqb rest 0 (λ e. omega arith) in
    let front : take j field ≡ blanks j =
    sym (take-take j (suc j) field (omega arith)) ∙ rw (w.blank) (take-replicate j (suc j) blank (omega arith)) in
    record {
      fits = omega (arith, w.fits);
      small = omega (arith, w.small);
      within = omega (arith, w.within);
      long = rw (length-set field j digit) w.long;
      blank = take-set field j digit ∙ front;
      digits =
          rw (drop-set field j digit room, is, add-one j)
          (sym (append_assoc (before (rest / 10)) ((48 + rest % 10) ∷ []) (drop (suc j) field))
          ∙ ap (λ (l : List ℕ). l ++ drop (suc j) field) (sym (last-digit rest w.small))
          ∙ rw none at w.digits);
    }

-- no digit is left
pub written-whole : (W number : ℕ) (field : List ℕ) (at rest : ℕ) → Written W number field at rest → rest ≤ 0 → field ≡ right W (decimal number)
unfolding right
written-whole W number field at zero w none =
    let digits : drop at field ≡ decimal number = w.digits in
    let long : length (decimal number) ≡ W - at = rw (← digits, ← w.long) (length-drop at field) in
    let room : W - length (decimal number) ≡ at = omega (arith, long, w.within) in
    rw room (sym (take-append-drop at field) ∙ rw (w.blank, digits) refl)
written-whole W number field at (suc rest) w none = absurd (omega arith)

-- some digit is left, so it has a place
pub written-room : (W number : ℕ) (field : List ℕ) (at rest : ℕ) → Written W number field at rest → 0 < rest → at ≡ suc (at - 1)
written-room W number field zero rest w some = absurd (omega (arith, w.fits))
written-room W number field (suc j) rest w some = omega arith

-- a digit for each decimal
pub volts-digits : (cv : ℕ) → volts cv ≡ decimal (cv / 100) ++ 46 ∷ (48 + cv / 10 % 10) ∷ (48 + cv % 10) ∷ []
unfolding volts
volts-digits cv =
    let two : decimal (cv / 10 % 10) ++ decimal (cv % 10) ≡ (48 + cv / 10 % 10) ∷ (48 + cv % 10) ∷ [] =
    rw (decimal_digit (cv / 10 % 10) (omega arith), decimal_digit (cv % 10) (omega arith)) refl in
    ap (λ (l : List ℕ). decimal (cv / 100) ++ 46 ∷ l) two

-- the point and the decimals stand behind the volts at the right end of three characters
pub volts-field : (cv : ℕ) (field : List ℕ) (tenths hundredths : ℕ) → cv < 2 ^ 16 → field ≡ right 3 (decimal (cv / 100))
    → tenths ≡ 48 + cv / 10 % 10 → hundredths ≡ 48 + cv % 10
    → get_or field 0 0 ∷ get_or field 1 0 ∷ get_or field 2 0 ∷ 46 ∷ tenths ∷ hundredths ∷ [] ≡ right 6 (volts cv)
volts-field cv field tenths hundredths h is t u =
    let short : length (decimal (cv / 100)) ≤ 3 = length-decimal-le 3 (cv / 100) (omega arith) (omega arith) (omega arith) in
    let long : length field ≡ 3 = rw is (right_length 3 (decimal (cv / 100)) short) in
    three field (46 ∷ tenths ∷ hundredths ∷ []) long
    ∙ rw (is, t, u) (sym (right-behind 3 3 (decimal (cv / 100)) (46 ∷ (48 + cv / 10 % 10) ∷ (48 + cv % 10) ∷ []) short refl))
    ∙ ap (right 6) (sym (volts-digits cv))
  where
    three : (field rest : List ℕ) → length field ≡ 3 → get_or field 0 0 ∷ get_or field 1 0 ∷ get_or field 2 0 ∷ rest ≡ field ++ rest
    three [] rest e = absurd (omega arith)
    three (a ∷ []) rest e = absurd (omega arith)
    three (a ∷ b ∷ []) rest e = absurd (omega arith)
    three (a ∷ b ∷ c ∷ []) rest e = refl
    three (a ∷ b ∷ c ∷ d ∷ more) rest e = absurd (omega arith)
