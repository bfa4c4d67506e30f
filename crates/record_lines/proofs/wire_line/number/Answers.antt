-- So far it is the number of the bytes that its digits spell.
use Rattle.std.proofs.Common.{arith, sym, refl, ◌∙◌}
use Rattle.hex_lines.proofs.PairsRead.{two_at}
use Rattle.record_lines.proofs.NumberSteps.{number_none, number_turn, number_all}
use Rattle.record_lines.proofs.wire_line.number.Goals as goal

pub loop-high-init : goal.loop-high-init
loop-high-init c = number_none _

pub loop-high-preserved : goal.loop-high-preserved
loop-high-preserved c = let l = c.loop-high in
    let front = c.as_chunks.ensures in
    rw c.from.ensures
    (number_turn l.invariant (two_at c.args.text.now l.high-index _ _ front.front front.front_len (omega arith) refl) c.in_ok-pair.field-0 (omega arith)
    (sym c.pair.ensures ∙ c.in_ok-pair.was))

pub returns : goal.returns
returns c = number_all c.loop-high.invariant (omega arith) c.told-text
