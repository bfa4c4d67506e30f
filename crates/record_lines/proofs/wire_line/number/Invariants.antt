-- So far it is the number of the bytes that its digits spell.
use Rattle.record_lines.proofs.NumberSteps.{NumberSoFar}
use Rattle.record_lines.proofs.wire_line.number.Given as goal

abbrev pub invariant-loop-high : goal.invariant-loop-high
invariant-loop-high l = NumberSoFar l.text l.high-index l.number
