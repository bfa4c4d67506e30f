-- Each turn reads two characters more.
use Rattle.std.proofs.Common.{[], arith, sym, ◌∙◌}
use Rattle.hex_lines.proofs.PairsRead.{read_none, two_at, read_more, read_stop}
use Rattle.hex_lines.proofs.line.put_pairs.Goals as goal

pub loop-n-init : goal.loop-n-init
loop-n-init c = read_none _

pub loop-n-preserved : goal.loop-n-preserved
loop-n-preserved c = let front = c.as_chunks.ensures in
    let two = c.in-Some.ensures.lookup.3 in
    read_more (two_at c.args.text.now c.loop-n.n _ _ front.front front.front_len two.0 (two.1 [])) _ c.loop-n.invariant (omega arith)
    c.in-Some-pair.read (sym c.pair.ensures ∙ c.in-Some-pair.is)

pub returns-in_default-pair-clause-all : goal.returns-in_default-pair-clause-all
returns-in_default-pair-clause-all c = λ h. let front = c.as_chunks.ensures in
    let two = c.in-Some.ensures.lookup.3 in
    read_stop (two_at c.args.text.now c.loop-n.n _ _ front.front front.front_len two.0 (two.1 []))
    (sym c.pair.ensures ∙ c.in_default-pair.is)
