-- What is read so far is flown.
use Rattle.flightsheet.proofs.RunLaws.{RunSoFar}
use Rattle.flightsheet.proofs.run.run.Given as goal

abbrev pub invariant-loop : goal.invariant-loop
invariant-loop g l = RunSoFar l.fn.craft l.flight (g.R.Read.remaining l.fn.from) (g.R.Read.remaining l.from) (g.W.Write.contents l.fn.to)
    (g.W.Write.contents l.to)
