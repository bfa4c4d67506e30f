-- The output lanes 0 to 3, and their turn: the fixed order of `EscOutput::ALL`, which is written out here again so that a wrong
-- order in the constant is refused.
use Rattle.std.specs.Prelude.{ℕ, Bool, List, [], ◌∷◌, eqb, nat_le, get_or}
use Rattle.base.specs.Choice.{pick}
use Rattle.base.specs.Reply.{Reply, accepted, refused}
use Rattle.esc_lanes.specs.declared.output.Lane.{Lane}
use Rattle.esc_lanes.specs.declared.output.Lane.TheVariants.{Output1, Output2, Output3, Output4}
use Rattle.esc_lanes.specs.declared.output.EscOutput.{EscOutput}

abbrev pub lane_number : Lane → ℕ
lane_number Output1 = 0
lane_number Output2 = 1
lane_number Output3 = 2
lane_number Output4 = 3

abbrev pub lane_after : Lane → Lane
lane_after Output1 = Output2
lane_after Output2 = Output3
lane_after Output3 = Output4
lane_after Output4 = Output1

abbrev pub lane_of : EscOutput → ℕ
lane_of o = lane_number o.0

-- lanes 0 to 3, in the fixed order of their turn
abbrev pub all_outputs : List EscOutput
all_outputs = record { 0 = Output1 } ∷ record { 0 = Output2 } ∷ record { 0 = Output3 } ∷ record { 0 = Output4 } ∷ []

-- the output of a lane's number; lane 0 past the last
abbrev pub output_at : ℕ → EscOutput
output_at n = get_or all_outputs n (record { 0 = Output1 })

abbrev pub next_output : EscOutput → EscOutput
next_output o = record { 0 = lane_after o.0 }

abbrev pub same_output : EscOutput → EscOutput → Bool
same_output a b = eqb (lane_of a) (lane_of b)

-- the lane of a byte; 6 above 3
unfoldable pub read_lane : ℕ → Reply EscOutput
read_lane lane = pick (nat_le lane 3) (accepted (output_at lane)) (refused 6)
