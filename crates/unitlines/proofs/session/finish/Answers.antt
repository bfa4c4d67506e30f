-- What is written is within the output, and is what the stream prints at the end.
use Rattle.std.proofs.Common.{◌∙◌, sym, ap, length-take-le, arith}
use Rattle.base.specs.Reply.{replied}
use Rattle.unit_text.specs.Stream.{printed_at_end}
use Rattle.unit_text.specs.Streams.{streamed}
use Rattle.base.proofs.HandLaws.{told-within, told_text}
use Rattle.unitlines.proofs.session.finish.Goals as goal

pub slice_bounds-write_end-end : goal.slice_bounds-write_end-end
slice_bounds-write_end-end g c = let told = sym (ap replied c.in_ok-n.was) ∙ c.finish.ensures.result_value in
    omega (arith, told-within (printed_at_end (streamed c.args.stream)) c.args.out.now _ told, c.finish.auto.out)

pub slice_bounds-write_end-end-2 : goal.slice_bounds-write_end-end-2
slice_bounds-write_end-end-2 g c = let told = sym (ap replied c.in_ok-n.was) ∙ c.finish.ensures.result_value in
    sym (length-take-le _ c.finish.new.out (omega (arith, told-within (printed_at_end (streamed c.args.stream)) c.args.out.now _ told, c.finish.auto.out)))

pub write_end-requires : goal.write_end-requires
write_end-requires g c = told_text _ _ _ _ (sym (ap replied c.in_ok-n.was) ∙ c.finish.ensures.result_value) c.finish.ensures.out_after
