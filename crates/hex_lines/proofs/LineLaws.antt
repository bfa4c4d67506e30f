-- Reading a line, one law for each way; and what comes of a line that digits begin.
use Rattle.std.proofs.Common.{◌≡◌, ℕ, ◌+◌, ◌*◌, ◌%◌, ◌≤◌, ◌<◌, true, false, List, [], ◌∷◌, length, get_or, refl, ap, ◌∙◌}
use Rattle.std.proofs.Common.{arith, append-nil, length-append}
use Rattle.std.proofs.lemmas.Bool.Decides.{nat_tests}
use Rattle.base.specs.Reply.{accepted, refused}
use Rattle.hex_lines.specs.Digit.{digit_of, is_digit}
use Rattle.hex_lines.specs.Line.{all_digits, pairs, read_line, widest, longest_record, PairsRead, NoPairBegins}
use Rattle.hex_lines.proofs.PairsLaws.{all_digits-append, no_pair}

module _ (line : List ℕ) where
  pub read_wide : widest < length line → read_line line ≡ refused 1
  unfolding read_line
  read_wide h = grind (arith, nat_tests)

  module _ (fits : length line ≤ widest) where
    pub read-digit : all_digits line ≡ false → read_line line ≡ refused 2
    unfolding read_line
    read-digit e = grind (arith, nat_tests)

    pub read-half : all_digits line ≡ true → length line % 2 ≡ 1 → read_line line ≡ refused 3
    unfolding read_line
    read-half e o = grind (arith, nat_tests)

    pub read_whole : all_digits line ≡ true → length line % 2 ≡ 0 → read_line line ≡ accepted (pairs line)
    unfolding read_line
    read_whole e o = grind (arith, nat_tests)

pub all-good : (c : ℕ) (line : List ℕ) → digit_of c < 16 → all_digits (c ∷ line) ≡ all_digits line
unfolding all_digits
all-good c line h = grind (arith, nat_tests)

-- what is left of a line, by its first two characters
rest_one : (rest : List ℕ) → length rest ≡ 1 → all_digits rest ≡ is_digit (get_or rest 0 0)
unfolding all_digits
rest_one [] l = absurd (omega arith)
rest_one (c ∷ []) l = grind (arith, nat_tests)
rest_one (c ∷ d ∷ rest) l = absurd (omega arith)

rest_bad : (rest : List ℕ) → 2 ≤ length rest → NoPairBegins rest → all_digits rest ≡ false
rest_bad [] l bad = absurd (omega arith)
rest_bad (c ∷ []) l bad = absurd (omega arith)
rest_bad (c ∷ d ∷ rest) l bad = no_pair c d rest (bad l)

-- a line that is not too wide, of which digits were read two by two
module _ {line bytes rest : List ℕ} (k : PairsRead line bytes rest) (fits : length line ≤ widest) where
  empty : (l : List ℕ) → length l < 1 → l ≡ []
  empty [] h = refl
  empty (c ∷ l) h = absurd (omega arith)

  by-rest : all_digits line ≡ all_digits rest
  by-rest = rw k.parts (all_digits-append k.front rest k.digits)

  long : length line ≡ 2 * length bytes + length rest
  long = rw k.parts (omega (arith, length-append k.front rest, k.even))

  -- nothing is left of it
  pub none-left : length rest < 1 → read_line line ≡ accepted bytes
  none-left h =
      let all : line ≡ k.front = k.parts ∙ rw (empty rest h) (append-nil k.front) in
      rw all (read_whole k.front (omega (arith, long, k.even)) k.digits (omega (arith, k.even))) ∙ ap accepted k.read

  -- a character is left that is a digit, or one that is none, or two that are not both digits
  pub one-left : length rest ≡ 1 → is_digit (get_or rest 0 0) ≡ true → read_line line ≡ refused 3
  one-left h e = read-half line fits (by-rest ∙ rest_one rest h ∙ e) (omega (arith, long))

  pub bad-left : length rest ≡ 1 → is_digit (get_or rest 0 0) ≡ false → read_line line ≡ refused 2
  bad-left h e = read-digit line fits (by-rest ∙ rest_one rest h ∙ e)

  pub two-left : 2 ≤ length rest → (length bytes < longest_record → NoPairBegins rest) → read_line line ≡ refused 2
  two-left h all = read-digit line fits (by-rest ∙ rest_bad rest h (all (omega (arith, long))))
