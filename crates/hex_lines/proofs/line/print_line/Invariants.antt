-- What is written so far is the characters of the bytes passed.
use Rattle.hex_lines.proofs.PrintLaws.{Shown}
use Rattle.hex_lines.proofs.line.print_line.Given as goal

abbrev pub invariant-loop-byte : goal.invariant-loop-byte
invariant-loop-byte l = Shown l.bytes l.initial.out l.at l.byte-index l.end l.out
