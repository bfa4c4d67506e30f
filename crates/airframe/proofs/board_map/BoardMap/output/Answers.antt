-- The search goes over the four outputs in their order, and tests each as the rule does.
use Rattle.std.proofs.Common.{rules, tests}
use Rattle.std.proofs.lemmas.Iterator.{YieldsList-from_slice}
use Rattle.std.proofs.lemmas.Iterator.Consumers.{YieldsList-from_copied}
use Rattle.std.proofs.lemmas.Iterator.Search.{find_from_yields_List}
use Rattle.esc_lanes.specs.Output.{all_outputs}
use Rattle.airframe.specs.Motor.{same_motor}
use Rattle.airframe.specs.BoardMap.{motor_on, output_with}
use Rattle.airframe.proofs.MotorLaws.{motor_equal}
use Rattle.airframe.proofs.board_map.BoardMap.output.Goals as goal

pub returns : goal.returns
unfolding output_with
returns c =
    let found = find_from_yields_List (λ o. same_motor (motor_on c.args.self o) c.args.motor) _ _ c.find.result c.find.ensures.ran
    (YieldsList-from_copied (YieldsList-from_slice all_outputs cc))
    (λ o equal f called. search (rules, tests, motor_equal)) in
    search (rules, found)
