-- What is written so far are the last digits, at the end of the field; the rest of the digits fit before them.
use Rattle.sheet.proofs.FieldLaws.{Written}
use Rattle.sheet.proofs.field.right.Given as goal

abbrev pub invariant-loop-rest : goal.invariant-loop-rest
invariant-loop-rest g l = Written g.row.W l.number l.field l.at l.rest

abbrev pub decreases-loop-rest : goal.decreases-loop-rest
decreases-loop-rest g l = l.rest
