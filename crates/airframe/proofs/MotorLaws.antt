-- A motor and its number, one from the other; what `==` says of two motors is that their numbers are equal.
use Rattle.std.proofs.Common.{◌≡◌, ℕ, suc, ◌≤◌, true, eqb, refl, sym, ap, ◌∙◌, arith, eqb-true}
use Rattle.std.proofs.lemmas.Bool.Decides.{nat_tests}
use denote.Enum.Bare.{sameb}
use denote.Enum.Declared.{tag_of}
use lib.Dec.{eqb-suc-suc}
use Rattle.base.specs.Reply.{accepted}
use Rattle.airframe.specs.Motor.{numeral, motor_number, same_motor, motor_of, read_motor}
use Rattle.airframe.specs.contracts.motor.MotorNumber.{the_type}
use Rattle.airframe.specs.contracts.motor.MotorPartialEq.TheImpl.{eq-value}
use Rattle.airframe.specs.declared.motor.MotorNumber.{MotorNumber}
use Rattle.airframe.specs.declared.motor.MotorNumber.TheVariants.{One, Two, Three, Four}
use Rattle.airframe.specs.declared.motor.Motor.{Motor}

pub number-of-motor : (n : ℕ) → (1 ≤ n) × (n ≤ 4) → motor_number (motor_of n) ≡ n
unfolding motor_of
number-of-motor n h = grind (arith, nat_tests)

motor-of-numeral : (d : MotorNumber) → motor_of (numeral d) ≡ record { 0 = d }
unfolding motor_of
motor-of-numeral One = refl
motor-of-numeral Two = refl
motor-of-numeral Three = refl
motor-of-numeral Four = refl

motor-of-number : (k : Motor) → motor_of (motor_number k) ≡ k
motor-of-number k = motor-of-numeral k.0

read-numeral : (d : MotorNumber) → read_motor (numeral d) ≡ accepted (motor_of (numeral d))
unfolding read_motor
read-numeral One = refl
read-numeral Two = refl
read-numeral Three = refl
read-numeral Four = refl

-- a motor's number reads as its own motor
pub read-motor : (k : Motor) → read_motor (motor_number k) ≡ accepted k
read-motor k = read-numeral k.0 ∙ ap accepted (motor-of-number k)

pub same-motor : (a b : Motor) → same_motor a b ≡ true → a ≡ b
same-motor a b e = sym (motor-of-number a) ∙ (ap motor_of (eqb-true _ _ e) ∙ motor-of-number b)

-- a motor's number is one more than its place among the variants
numeral_tag : (d : MotorNumber) → numeral d ≡ suc (tag_of the_type d)
numeral_tag One = refl
numeral_tag Two = refl
numeral_tag Three = refl
numeral_tag Four = refl

number_equal : (a b : MotorNumber) → sameb the_type a b ≡ eqb (numeral a) (numeral b)
number_equal a b = rw (numeral_tag a, numeral_tag b) (sym (eqb-suc-suc (tag_of the_type a) (tag_of the_type b)))

pub motor_equal : (a b : Motor) → eq-value.it a b ≡ same_motor a b
motor_equal a b = number_equal a.0 b.0
