-- `==` of a request and the one that is wanted is the rule's.
use Rattle.std.proofs.Common.{◌≡◌, Option, Some, None, refl}
use Rattle.std.specs.Option.{option_eq}
use Rattle.esc_lanes.specs.contracts.request.EscActuatorRequestPartialEq.TheImpl.{eq-value}
use Rattle.esc_lanes.specs.declared.request.EscActuatorRequest.{EscActuatorRequest}
use Rattle.esc_lanes.proofs.RequestLaws.{request_equal}
use Rattle.esc_feedback.specs.Queueing.{is_wanted}

pub wanted_equal : (q : EscActuatorRequest) (wanted : Option EscActuatorRequest) → option_eq eq-value.it (Some q) wanted ≡ is_wanted q wanted
wanted_equal q None = refl
wanted_equal q (Some w) = request_equal q w
