-- What `==` says of two lanes and of two requests is the rule's.
use Rattle.std.proofs.Common.{◌≡◌, Bool, true, false, ◌&&◌, eqb, refl}
use denote.Enum.Bare.{sameb}
use denote.Enum.Declared.{tag_of}
use Rattle.base.specs.Choice.{pick}
use Rattle.esc_lanes.specs.Output.{lane_number, same_output}
use Rattle.esc_lanes.specs.Request.{same_request}
use Rattle.esc_lanes.specs.contracts.output.Lane.{the_type}
use Rattle.esc_lanes.specs.contracts.output.EscOutputPartialEq.TheImpl as output
use Rattle.esc_lanes.specs.contracts.request.EscActuatorRequestPartialEq.TheImpl.{eq-value}
use Rattle.esc_lanes.specs.declared.output.Lane.{Lane}
use Rattle.esc_lanes.specs.declared.output.Lane.TheVariants.{Output1, Output2, Output3, Output4}
use Rattle.esc_lanes.specs.declared.output.EscOutput.{EscOutput}
use Rattle.esc_lanes.specs.declared.request.EscActuatorRequest.{EscActuatorRequest}

-- a lane's number is its place among the variants
number_tag : (l : Lane) → tag_of the_type l ≡ lane_number l
number_tag Output1 = refl
number_tag Output2 = refl
number_tag Output3 = refl
number_tag Output4 = refl

lane_equal : (a b : Lane) → sameb the_type a b ≡ eqb (lane_number a) (lane_number b)
lane_equal a b = rw (number_tag a, number_tag b)

pub output_equal : (a b : EscOutput) → output.eq-value.it a b ≡ same_output a b
output_equal a b = lane_equal a.0 b.0

both : (sequence output : Bool) → sequence && output ≡ pick sequence output false
both true o = refl
both false o = refl

pub request_equal : (a b : EscActuatorRequest) → eq-value.it a b ≡ same_request a b
unfolding same_request
request_equal a b = rw (lane_equal a.output.0 b.output.0) (both (eqb a.sequence b.sequence) (same_output a.output b.output))
