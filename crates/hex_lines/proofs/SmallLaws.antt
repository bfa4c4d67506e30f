-- Lowering a character changes A-F alone: it makes no LF and loses none, and once is enough.
use Rattle.std.proofs.Common.{◌≡◌, ℕ, false, arith}
use Rattle.std.proofs.lemmas.Bool.Decides.{nat_tests}
use Rattle.hex_lines.specs.Digit.{is_capital, small}
use Rattle.hex_lines.specs.Line.{line_end}

module _ (c : ℕ) where
  pub small-other : is_capital c ≡ false → small c ≡ c
  unfolding small
  small-other e = grind (arith, nat_tests)

  pub small-twice : small (small c) ≡ small c
  unfolding small
  small-twice = grind (arith, nat_tests)

  pub small-end : c ≡ line_end → small c ≡ line_end
  unfolding small
  small-end e = grind (arith, nat_tests)

  pub small-no-end : (c ≡ line_end → ⊥) → small c ≡ line_end → ⊥
  unfolding small
  small-no-end other e = grind (arith, nat_tests)
