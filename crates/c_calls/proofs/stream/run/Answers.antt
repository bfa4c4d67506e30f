-- The parser is run byte by byte, and what each brings out is put in its place.
use Rattle.std.proofs.Common.{◌∙◌}
use Rattle.c_calls.proofs.Running.{running_more, running-end}
use Rattle.c_calls.proofs.stream.run.Goals as goal

pub loop-i-preserved : goal.loop-i-preserved
loop-i-preserved c = let put = c.put in
    running_more c.loop-i.invariant c.loop-i-test.true c.push-parsed.ensures put.ensures.gave_after put.ensures.fields_after put.auto.gave put.auto.fields

pub returns : goal.returns
returns c =
    let end = running-end c.loop-i.invariant c.loop-i-test.false in
    record { value = c.stats.ensures ∙ end.0; gave_after = end.1.0; fields_after = end.1.1 }
