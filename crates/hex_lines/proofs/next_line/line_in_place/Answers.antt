-- LF follows the digits, or there are none.
use Rattle.std.proofs.Common.{rules, arith}
use Rattle.hex_lines.proofs.NextLineLaws.{read_in_place}
use Rattle.hex_lines.proofs.PairsRead.{read_none}
use Rattle.hex_lines.proofs.next_line.line_in_place.Goals as goal

pub returns-in-10 : goal.returns-in-10
returns-in-10 c = read_in_place (read_none c.args.chunk.now) (omega arith) (omega arith) (omega arith) (search rules)

pub returns : goal.returns
returns c = let p = c.read_pairs-n.ensures in
    read_in_place p.read p.fits (search rules) (omega arith) (search rules)
