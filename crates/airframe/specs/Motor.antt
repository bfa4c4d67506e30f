-- The motors 1 to 4, and reading one from a byte.
use Rattle.std.specs.Prelude.{ℕ, Bool, ◌==◌, nat_le}
use Rattle.base.specs.Choice.{pick}
use Rattle.base.specs.Reply.{Reply, accepted, refused}
use Rattle.airframe.specs.declared.motor.MotorNumber.{MotorNumber}
use Rattle.airframe.specs.declared.motor.MotorNumber.TheVariants.{One, Two, Three, Four}
use Rattle.airframe.specs.declared.motor.Motor.{Motor}

abbrev pub numeral : MotorNumber → ℕ
numeral One = 1
numeral Two = 2
numeral Three = 3
numeral Four = 4

abbrev pub motor_number : Motor → ℕ
motor_number m = numeral m.0

abbrev pub same_motor : Motor → Motor → Bool
same_motor a b = motor_number a == motor_number b

-- the motor of a number 1 to 4
unfoldable pub motor_of : ℕ → Motor
motor_of n =
    pick (n == 1) (record { 0 = One })
    (pick (n == 2) (record { 0 = Two }) (pick (n == 3) (record { 0 = Three }) (record { 0 = Four })))

-- reading: 6 where the byte is not 1 to 4
unfoldable pub read_motor : ℕ → Reply Motor
read_motor n = pick (nat_le 1 n) (pick (nat_le n 4) (accepted (motor_of n)) (refused 6)) (refused 6)
