-- Piece by piece the answers stand behind those before.
use Rattle.std.proofs.Common.{arith}
use Rattle.unit_text.proofs.PieceLaws.{written_none, written_more}
use Rattle.unit_text.proofs.whole_session.write_answers.Goals as goal

pub loop-n-init : goal.loop-n-init
loop-n-init c = written_none _ _ _ c.requires c.new-pieces.ensures

pub loop-n-preserved : goal.loop-n-preserved
loop-n-preserved c = rw c.copy.ensures (written_more c.loop-n.invariant c.in-Some.ensures (omega arith))
