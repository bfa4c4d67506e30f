-- Four bytes with each of 1 to 4 once have no other byte.
use Rattle.std.proofs.Common.{◌≡◌, ℕ, ◌≤◌, true, List, [], ◌∷◌, length, get_or, ap, ◌∙◌, arith, drop-cons}
use Rattle.std.proofs.Math.ListN.{drop_of_length-le}
use Rattle.std.proofs.lemmas.Bool.Decides.{nat_tests}
use Rattle.airframe.specs.Once.{times, each_once}
use Rattle.airframe.specs.Motor.{numeral}
use Rattle.airframe.specs.declared.motor.MotorNumber.{MotorNumber}
use Rattle.airframe.specs.declared.motor.MotorNumber.TheVariants.{One, Two, Three, Four}

-- each motor's number stands once
pub each : (s : List ℕ) → each_once s ≡ true → (d : MotorNumber) → times (numeral d) s ≡ 1
unfolding each_once
each s e One = grind (arith, nat_tests)
each s e Two = grind (arith, nat_tests)
each s e Three = grind (arith, nat_tests)
each s e Four = grind (arith, nat_tests)

-- a list of four, entry by entry
pub four-entries : (s : List ℕ) → length s ≡ 4 → s ≡ get_or s 0 0 ∷ get_or s 1 0 ∷ get_or s 2 0 ∷ get_or s 3 0 ∷ []
four-entries s l =
    drop-cons s 0 0 (omega arith)
    ∙ ap (λ r. get_or s 0 0 ∷ r) (drop-cons s 1 0 (omega arith)
    ∙ ap (λ r. get_or s 1 0 ∷ r) (drop-cons s 2 0 (omega arith)
    ∙ ap (λ r. get_or s 2 0 ∷ r) (drop-cons s 3 0 (omega arith)
    ∙ ap (λ r. get_or s 3 0 ∷ r) (drop_of_length-le s {i = 4} (omega arith)))))

pub record MotorBytes (a b c d : ℕ) : Type 0 where
  pub first : (1 ≤ a) × (a ≤ 4)
  pub second : (1 ≤ b) × (b ≤ 4)
  pub third : (1 ≤ c) × (c ≤ 4)
  pub fourth : (1 ≤ d) × (d ≤ 4)

pub motor-bytes : (a b c d : ℕ) → each_once (a ∷ b ∷ c ∷ d ∷ []) ≡ true → MotorBytes a b c d
unfolding each_once
motor-bytes a b c d e =
    record {
      first = grind (arith, nat_tests);
      second = grind (arith, nat_tests);
      third = grind (arith, nat_tests);
      fourth = grind (arith, nat_tests);
    }
