-- Its characters are tested from the front, two digits at a time.
use Rattle.std.proofs.Common.{rules, arith, sym, ◌∙◌}
use Rattle.std.proofs.lemmas.List.{take_rest}
use Rattle.record_lines.proofs.WireRead.{wire_read}
use Rattle.record_lines.proofs.wire_line.wire_line.Goals as goal

pub returns : goal.returns
returns c = let chunk = c.args.chunk.now in
    let cut = c.in_ok-split_first_chunk in
    wire_read chunk c.in-48.len_at_least (search rules) (search rules) c.in_ok-pair.field-0 (sym c.pair.ensures ∙ c.in_ok-pair.was)
    _ cut.field-0.0.now cut.field-0.1.now (take_rest chunk 4) cut.ensures.cases (omega arith) (search rules) c.in_ok-number.field-0 c.in_ok-number.ensures
