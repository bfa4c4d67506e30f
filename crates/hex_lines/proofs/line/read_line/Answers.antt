-- What is left of the line behind its digits decides.
use Rattle.std.proofs.Common.{arith, sym, ◌∙◌, length-take}
use Rattle.hex_lines.proofs.LineLaws.{none-left, one-left, bad-left, two-left}
use Rattle.hex_lines.proofs.line.read_line.Goals as goal

pub returns-in-empty : goal.returns-in-empty
returns-in-empty c = sym (none-left c.read_pairs-n.ensures.read (omega arith) c.in-empty.len_below)

pub returns-in-len1 : goal.returns-in-len1
returns-in-len1 c = sym (one-left c.read_pairs-n.ensures.read (omega arith) (omega arith) (sym c.is_digit.ensures ∙ c.if-is_digit.true))

pub returns-in-len1-2 : goal.returns-in-len1-2
returns-in-len1-2 c = sym (bad-left c.read_pairs-n.ensures.read (omega arith) (omega arith) (sym c.is_digit.ensures ∙ c.if-is_digit.false))

pub returns-in-len2-up : goal.returns-in-len2-up
returns-in-len2-up c = let p = c.read_pairs-n in
    sym (two-left p.ensures.read (omega arith) c.in-len2-up.len_at_least (λ h. p.ensures.all (omega (arith, length-take p.result.0 p.new.bytes))))
