-- The board map from its bytes, with a lane's or a motor's number, both ways.
use Rattle.std.specs.Prelude.{ℕ, min, List}
use Rattle.base.specs.Reply.{Reply, accepted, refused}
use Rattle.esc_lanes.specs.Output.{lane_of, read_lane}
use Rattle.esc_lanes.specs.declared.output.EscOutput.{EscOutput}
use Rattle.airframe.specs.Motor.{motor_number, read_motor}
use Rattle.airframe.specs.BoardMap.{motor_on, output_with, read_map}
use Rattle.airframe.specs.declared.motor.Motor.{Motor}
use Rattle.airframe.specs.declared.board_map.BoardMap.{BoardMap}

-- two readings together: the lowest applicable number is given
abbrev pub together : {A B C : Type 0} → (A → B → C) → Reply A → Reply B → Reply C
together f (accepted a) (accepted b) = accepted (f a b)
together f (accepted a) (refused n) = refused n
together f (refused m) (accepted b) = refused m
together f (refused m) (refused n) = refused (min m n)

-- the number of the motor on a lane
abbrev pub number_on : BoardMap → EscOutput → ℕ
number_on m o = motor_number (motor_on m o)

-- or 5 for the map's length, 6 for the lane, 12 for the map
abbrev pub motor_of_lane : List ℕ → ℕ → Reply ℕ
motor_of_lane map lane = together number_on (read_map map) (read_lane lane)

-- the number of the lane that has a motor
abbrev pub lane_with : BoardMap → Motor → ℕ
lane_with m k = lane_of (output_with m k)

-- or 5 for the map's length, 6 for the motor, 12 for the map
abbrev pub lane_of_motor : List ℕ → ℕ → Reply ℕ
lane_of_motor map motor = together lane_with (read_map map) (read_motor motor)
