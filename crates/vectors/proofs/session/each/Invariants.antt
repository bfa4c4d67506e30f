-- Each turn takes a record off what is left.
use Rattle.std.proofs.Common.{length}
use Rattle.vectors.proofs.session.each.Given as goal

abbrev pub decreases-loop-rest : goal.decreases-loop-rest
decreases-loop-rest g l = length l.rest
