-- A line is refused by 2 where one of its characters is in no typed row: such a one has no value, and any other has one.
use Rattle.std.proofs.Common.{◌≡◌, ℕ, Bool, true, false, not, is_none, List, [], ◌∷◌, refl, ap, ◌∙◌, arith}
use Rattle.std.proofs.lemmas.Bool.Decides.{nat_tests}
use Rattle.base.specs.Reply.{refused}
use Rattle.hex_lines.specs.Digit.{is_digit, value_of}
use Rattle.hex_lines.specs.Line.{all_digits, read_line}
use Rattle.hex_lines.specs.TypedDigits.{typed_value}
use Rattle.hex_lines.specs.OthersRefused.{has_other, OthersRefused}
use Rattle.hex_lines.proofs.LineLaws.{read_wide, read-digit, read-half, read_whole}
use Rattle.hex_lines.proofs.TypedDigits.{typed-digits}

digit-or-other : (c : ℕ) → is_digit c ≡ not (is_none (typed_value c))
unfolding value_of
digit-or-other c = rw (← typed-digits.value c) (grind (arith, nat_tests))

all-or-other : (line : List ℕ) → all_digits line ≡ not (has_other line)
unfolding all_digits
all-or-other [] = refl
all-or-other (c ∷ line) = grind (arith, digit-or-other c, all-or-other line)

-- 1, 3, or a record's bytes
module _ (line : List ℕ) (digits : all_digits line ≡ true) where
  not-2 : read_line line ≡ refused 2 → ⊥
  not-2 e = grind (arith, nat_tests, read_wide line, read-half line, read_whole line)

only-others : (line : List ℕ) (b : Bool) → has_other line ≡ b → read_line line ≡ refused 2 → has_other line ≡ true
only-others line true h e = h
only-others line false h e = absurd (not-2 line (all-or-other line ∙ ap not h) e)

pub others-refused : OthersRefused
others-refused =
    record {
      only = λ line e. only-others line (has_other line) refl e;
      all = λ line fits e. read-digit line fits (all-or-other line ∙ ap not e);
    }
