-- Lines by computation, as they are read and as they were read before capitals were digits: 1, 2 and 3 keep their order.
use Rattle.std.proofs.Common.{◌≡◌, ℕ, List, [], ◌∷◌, ◌++◌, map, replicate, refl}
use Rattle.std.specs.Prelude.{codes}
use Rattle.base.specs.Reply.{Reply, accepted, refused}
use Rattle.hex_lines.specs.Digit.{small_digit, small, digit_of}
use Rattle.hex_lines.specs.Line.{all_digits, pairs, read_line}
use Rattle.hex_lines.specs.LineBefore.{pairs_before, read_before}

-- the last two have 59 characters
abbrev texts : List (List ℕ)
texts =
    codes "12ab"
    ∷ codes "12AB"
    ∷ codes "aBFf"
    ∷ codes "06a"
    ∷ codes "06A"
    ∷ codes "AG"
    ∷ codes "A@f"
    ∷ replicate 59 0x41
    ∷ (replicate 58 0x41 ++ codes "G")
    ∷ []

abbrev two : Reply (List ℕ)
two = accepted (0x12 ∷ 0xab ∷ [])

pub record LineCases : Type 0 where
  pub now : map read_line texts
      ≡ two ∷ two ∷ accepted (0xab ∷ 0xff ∷ []) ∷ refused 3 ∷ refused 3 ∷ refused 2 ∷ refused 2 ∷ refused 1 ∷ refused 1 ∷ []
  pub before : map read_before texts
      ≡ two ∷ refused 2 ∷ refused 2 ∷ refused 3 ∷ refused 2 ∷ refused 2 ∷ refused 2 ∷ refused 1 ∷ refused 1 ∷ []

pub line-cases : LineCases
unfolding read_line all_digits pairs digit_of small small_digit read_before pairs_before
line-cases = record { now = refl; before = refl }
