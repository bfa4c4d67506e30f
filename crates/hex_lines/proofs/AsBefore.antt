-- A line is read as its lowered one was before A-F were digits; so one without capitals is read as it was.
use Rattle.std.proofs.Common.{◌≡◌, ℕ, ◌+◌, ◌*◌, Bool, true, ◌&&◌, List, [], ◌∷◌, refl, ap, ◌∙◌, arith}
use Rattle.std.specs.Prelude.{nat_lt}
use lib.ListN.{length-map}
use Rattle.hex_lines.specs.Digit.{small_digit, small, digit_of}
use Rattle.hex_lines.specs.Line.{all_digits, pairs, read_line}
use Rattle.hex_lines.specs.Capitals.{lowered, no_capitals}
use Rattle.hex_lines.specs.LineBefore.{all_digits_before, pairs_before, read_before, AsBefore}
use Rattle.hex_lines.proofs.SmallLaws.{small-other, small-twice}

pub lowered-twice : (text : List ℕ) → lowered (lowered text) ≡ lowered text
lowered-twice [] = refl
lowered-twice (c ∷ text) = rw (small-twice c, lowered-twice text)

pub lowered-none : (text : List ℕ) → no_capitals text ≡ true → lowered text ≡ text
lowered-none [] e = refl
lowered-none (c ∷ text) e = rw (small-other c (grind (arith, e)), lowered-none text (grind (arith, e)))

digits-lowered : (line : List ℕ) → all_digits line ≡ all_digits_before (lowered line)
unfolding all_digits digit_of
digits-lowered [] = refl
digits-lowered (c ∷ line) = ap (λ (b : Bool). nat_lt (small_digit (small c)) 16 && b) (digits-lowered line)

pairs-lowered : (line : List ℕ) → pairs line ≡ pairs_before (lowered line)
unfolding pairs pairs_before digit_of
pairs-lowered [] = refl
pairs-lowered (c ∷ []) = refl
pairs-lowered (c ∷ d ∷ line) = ap (λ (l : List ℕ). (small_digit (small c) * 16 + small_digit (small d)) ∷ l) (pairs-lowered line)

pub read-lowered : (line : List ℕ) → read_line line ≡ read_before (lowered line)
unfolding read_line read_before
read-lowered line = rw (length-map line small, digits-lowered line, pairs-lowered line)

pub as-before : AsBefore
as-before line e = read-lowered line ∙ ap read_before (lowered-none line e)
