-- Each chunk that is read is flown, and at the end of input the sheet is whole.
use Rattle.std.proofs.Common.{arith}
use Rattle.flightsheet.proofs.RunLaws.{run-begun, run-further, run-ended}
use Rattle.flightsheet.proofs.run.run.Goals as goal

pub loop-init : goal.loop-init
loop-init g c = run-begun _ _ _ _ (c.new-flight.ensures _)

pub loop-preserved : goal.loop-preserved
loop-preserved g c = let so_far = c.loop.invariant in
    run-further so_far _ _ _ _ c.in-Ok.ensures.bytes.0 (c.in_ok-take.ensures c.args.craft so_far.done _ so_far.flown)

pub returns-then-n-eq0 : goal.returns-then-n-eq0
returns-then-n-eq0 g c = let so_far = c.loop.invariant in
    let none = c.if-n-eq0.true in
    let bytes = c.in-Ok.ensures.bytes in
    λ room. run-ended so_far _ _ (rw none at bytes.0) (bytes.1 none (omega (arith, room, c.loop.auto.input, c.read.auto.buf)))
    (c.in_ok-passed_over.ensures c.args.craft so_far.done _ so_far.flown)
