-- Each refusal hands back the unit that it was given: a law of the call, which `esc_unit` has.
use Rattle.esc_unit.proofs.UnitLaws.{call-keeps}
use Rattle.booking.specs.Claims.{RefusalKeeps}

pub refusal-keeps : RefusalKeeps
refusal-keeps u bytes room n e =
    let k = call-keeps u bytes room n e in
    (k.unit, k.output)
