-- A lane's or a motor's number, converted, gives what the lane or the motor gives: each number reads as its own.
use Rattle.std.proofs.Common.{◌≡◌, ap}
use Rattle.base.specs.Reply.{accepted, converted}
use Rattle.esc_lanes.specs.Output.{lane_of}
use Rattle.esc_lanes.specs.declared.output.EscOutput.{EscOutput}
use Rattle.esc_lanes.proofs.OutputLaws.{read-lane}
use Rattle.airframe.specs.Motor.{motor_number}
use Rattle.airframe.specs.BoardMap.{motor_on, output_with, motor_on_byte, output_with_byte}
use Rattle.airframe.specs.declared.motor.Motor.{Motor}
use Rattle.airframe.specs.declared.board_map.BoardMap.{BoardMap}
use Rattle.airframe.proofs.MotorLaws.{read-motor}

pub motor-by-byte : (m : BoardMap) (o : EscOutput) → motor_on_byte m (lane_of o) ≡ accepted (motor_on m o)
motor-by-byte m o = ap (converted (motor_on m)) (read-lane o)

pub output-by-byte : (m : BoardMap) (k : Motor) → output_with_byte m (motor_number k) ≡ accepted (output_with m k)
output-by-byte m k = ap (converted (output_with m)) (read-motor k)
