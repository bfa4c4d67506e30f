-- What is read so far is what the stream has passed, and what it prints at that is written.
use Rattle.unit_text.specs.Streams.{streamed}
use Rattle.unitlines.proofs.SoFar.{SoFar}
use Rattle.unitlines.proofs.session.run.Given as goal

abbrev pub invariant-loop : goal.invariant-loop
invariant-loop g l = SoFar (streamed l.stream) (g.R.Read.remaining l.initial.from) (g.R.Read.remaining l.from) (g.W.Write.contents l.initial.to)
    (g.W.Write.contents l.to)
