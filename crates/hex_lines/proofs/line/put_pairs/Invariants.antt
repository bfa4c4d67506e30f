-- So many bytes stand in front of the buffer as turns were taken.
use Rattle.std.proofs.Common.{◌*◌, take, drop}
use Rattle.hex_lines.specs.Line.{PairsRead}
use Rattle.hex_lines.proofs.line.put_pairs.Given as goal

abbrev pub invariant-loop-n : goal.invariant-loop-n
invariant-loop-n l = PairsRead l.text (take l.n l.bytes) (drop (2 * l.n) l.text)
