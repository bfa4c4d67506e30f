-- A lane's number is below 4, and is read as its lane.
use Rattle.std.proofs.Common.{◌≡◌, ◌<◌, arith, refl}
use Rattle.base.specs.Reply.{accepted}
use Rattle.esc_lanes.specs.Output.{lane_number, lane_of, read_lane}
use Rattle.esc_lanes.specs.declared.output.Lane.{Lane}
use Rattle.esc_lanes.specs.declared.output.Lane.TheVariants.{Output1, Output2, Output3, Output4}
use Rattle.esc_lanes.specs.declared.output.EscOutput.{EscOutput}

pub lane_below : (l : Lane) → lane_number l < 4
lane_below Output1 = omega arith
lane_below Output2 = omega arith
lane_below Output3 = omega arith
lane_below Output4 = omega arith

read-number : (l : Lane) → read_lane (lane_number l) ≡ accepted (record { 0 = l })
unfolding read_lane
read-number Output1 = refl
read-number Output2 = refl
read-number Output3 = refl
read-number Output4 = refl

pub read-lane : (o : EscOutput) → read_lane (lane_of o) ≡ accepted o
read-lane o = read-number o.0
