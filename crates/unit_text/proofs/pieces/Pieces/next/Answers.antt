-- A piece is what the stream prints, of what is left of the text or at its end.
use Rattle.std.proofs.Common.{◌<◌, length, rules, arith, sym, ◌∙◌, append-nil, length-drop}
use Rattle.unit_text.specs.Streams.{streamed, fed}
use Rattle.unit_text.proofs.FedLaws.{fed-within, fed-some, fed-fits}
use Rattle.unit_text.proofs.Feeding.{part_left}
use Rattle.unit_text.proofs.PieceLaws.{fed_left, end_printed, text_from_none}
use Rattle.unit_text.proofs.pieces.Pieces.next.Goals as goal

pub returns-then-is_empty : goal.returns-then-is_empty
returns-then-is_empty c = let s = streamed c.args.self.now.stream in
    let f = c.finish in
    let end = end_printed s f.result c.args.self.now.piece f.new.out (search rules) f.ensures.result_value f.ensures.out_after in
    rw (c.ok.ensures.value, end.said)
    (record {
      room = search rules;
      within = omega (arith, end.within);
      text = rw c.in_ok-rest.was (text_from_none s c.in_ok-rest.rest.now (search rules) ∙ sym (append-nil _ ∙ end.text));
      fewer = rw c.in_ok-rest.was (omega arith);
    })

pub slice_bounds-self-count : goal.slice_bounds-self-count
slice_bounds-self-count c = fed-within _ _ _ (fed c.feed-fed.result) c.feed-fed.ensures.result_value

pub slice_bounds-self-start : goal.slice_bounds-self-start
slice_bounds-self-start c = fed-within _ _ _ (fed c.feed-fed.result) c.feed-fed.ensures.result_value

pub returns : goal.returns
returns c = let s = streamed c.args.self.now.stream in
    let rest = c.in_ok-rest.rest.now in
    let f = c.feed-fed in
    let e = f.ensures.result_value in
    let some : 0 < length rest = search rules in
    record {
      room = search rules;
      within = omega (arith, fed-fits s _ _ (fed f.result) e);
      text =
          rw (c.in_ok-rest.was, part_left rest f.result.used)
          (fed_left s rest c.args.self.now.piece f.new.out (fed f.result) e f.ensures.out_after);
      fewer =
          rw (c.in_ok-rest.was, part_left rest f.result.used)
          (omega (arith, length-drop f.result.used rest, fed-within s rest _ (fed f.result) e, fed-some s rest _ (fed f.result) e));
    }
