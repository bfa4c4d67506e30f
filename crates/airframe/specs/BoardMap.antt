-- The board map (document 01): the motor of each lane and the lane of each motor, and reading a map from its four bytes.
use Rattle.std.specs.Prelude.{ℕ, List, [], ◌∷◌, ◌==◌, length, get_or, find, unwrap_or}
use Rattle.base.specs.Choice.{pick}
use Rattle.base.specs.Reply.{Reply, accepted, refused, converted}
use Rattle.esc_lanes.specs.Output.{lane_of, all_outputs, read_lane}
use Rattle.esc_lanes.specs.declared.output.Lane.TheVariants.{Output4}
use Rattle.esc_lanes.specs.declared.output.EscOutput.{EscOutput}
use Rattle.airframe.specs.Motor.{same_motor, motor_of, read_motor}
use Rattle.airframe.specs.Once.{each_once}
use Rattle.airframe.specs.declared.motor.MotorNumber.TheVariants.{One}
use Rattle.airframe.specs.declared.motor.Motor.{Motor}
use Rattle.airframe.specs.declared.board_map.BoardMap.{BoardMap}

-- the motor of a lane
abbrev pub motor_on : BoardMap → EscOutput → Motor
motor_on m o = get_or m.motors (lane_of o) (record { 0 = One })

-- the lane of a motor: the first that has it, and lane 3 where none does
unfoldable pub output_with : BoardMap → Motor → EscOutput
output_with m k = unwrap_or (find (λ o. same_motor (motor_on m o) k) all_outputs) (record { 0 = Output4 })

-- the two conversions from a byte
abbrev pub motor_on_byte : BoardMap → ℕ → Reply Motor
motor_on_byte m lane = converted (motor_on m) (read_lane lane)

abbrev pub output_with_byte : BoardMap → ℕ → Reply EscOutput
output_with_byte m byte = converted (output_with m) (read_motor byte)

-- four bytes are the motors of lanes 0 to 3, in that order
unfoldable pub map_of : List ℕ → BoardMap
map_of s =
    record {
      motors = motor_of (get_or s 0 0) ∷ motor_of (get_or s 1 0) ∷ motor_of (get_or s 2 0) ∷ motor_of (get_or s 3 0) ∷ [];
    }

-- reading: 5 where the map has not four bytes, 12 where they are not each of 1 to 4 once
unfoldable pub read_map : List ℕ → Reply BoardMap
read_map s = pick (length s == 4) (pick (each_once s) (accepted (map_of s)) (refused 12)) (refused 5)
