-- What is written and what is left are the session.
use Rattle.unit_text.specs.Pieces.{steps_left}
use Rattle.unit_text.proofs.PieceLaws.{Written}
use Rattle.unit_text.proofs.whole_session.write_answers.Given as goal

abbrev pub invariant-loop-n : goal.invariant-loop-n
invariant-loop-n l = Written l.text l.pieces l.initial.out l.end l.out

abbrev pub decreases-loop-n : goal.decreases-loop-n
decreases-loop-n l = steps_left l.pieces
