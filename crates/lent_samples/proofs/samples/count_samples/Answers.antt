-- There are as many samples as parts.
use Rattle.std.proofs.Common.{rules, sym, ◌∙◌}
use Rattle.lent_samples.proofs.SamplesLaws.{samples-count}
use Rattle.lent_samples.proofs.samples.count_samples.Goals as goal

pub returns : goal.returns
returns c = let parts = c.as_chunks.ensures.front in
    rw parts (sym (samples-count c.args.bytes.now (search rules) (rw (sym parts) (sym c.all_on_lanes.ensures ∙ c.if-not-all_on_lanes.false))))
