-- A word whose digits so far make no number makes none.
use Rattle.std.proofs.Common.{◌≡◌, ℕ, ◌+◌, ◌<◌, ◌==◌, false, List, [], ◌∷◌, Some, None, Option, length, get_or, drop, refl, sym, ap, ◌∙◌}
use Rattle.std.proofs.lemmas.List.{at_drop_more}
use Rattle.std.specs.List.{fold}
use Rattle.flightsheet.specs.Craft.{with_digit, number_of_word}

none-more : (text : List ℕ) → fold with_digit None text ≡ None
unfolding with_digit
none-more [] = refl
none-more (c ∷ text) = none-more text

pub no-number : (word : List ℕ) (number i : ℕ) → (length word == 0) ≡ false → i < length word
    → fold with_digit (Some number) (drop i word) ≡ fold with_digit (Some 0) word → with_digit (Some number) (get_or word i 0) ≡ None
    → number_of_word word ≡ None
unfolding number_of_word
no-number word number i some within is none =
    rw some (sym is ∙ at_drop_more (fold with_digit (Some number)) word i 0 within ∙ ap (λ (n : Option ℕ). fold with_digit n (drop (i + 1) word)) none
    ∙ none-more (drop (i + 1) word))
