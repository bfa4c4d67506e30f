-- Each turn takes a part off the chunk, and writes what the stream prints at that part.
use Rattle.std.proofs.Common.{◌∙◌, ℕ, List, sym, ap, subst, refl, length-take-le, arith}
use Rattle.std.specs.Io.KnownBytes.{Appends}
use Rattle.unit_text.specs.Stream.{after, printed}
use Rattle.unit_text.specs.Streams.{streamed}
use Rattle.unit_text.proofs.FedLaws.{fed-stream, fed-within, fed-some, fed-fits, fed-text}
use Rattle.std.proofs.KnownBytes.{Appends-nil, Appends-trans}
use Rattle.unitlines.proofs.Parts.{nothing_left, some_left, after_parts, printed_parts}
use Rattle.unitlines.proofs.session.pump.Goals as goal

pub split_at-requires : goal.split_at-requires
split_at-requires g c = fed-within _ _ _ _ c.feed-fed.ensures.result_value

pub slice_bounds-write_printed-end : goal.slice_bounds-write_printed-end
slice_bounds-write_printed-end g c = omega (arith, fed-fits _ _ _ _ c.feed-fed.ensures.result_value, c.feed-fed.auto.out)

pub slice_bounds-write_printed-end-in-loop-rest : goal.slice_bounds-write_printed-end-in-loop-rest
slice_bounds-write_printed-end-in-loop-rest g c = let f = c.feed-fed in
    sym (length-take-le f.result.written f.new.out (omega (arith, fed-fits _ _ _ _ f.ensures.result_value, f.auto.out)))

pub write_printed-requires : goal.write_printed-requires
write_printed-requires g c = let f = c.feed-fed in
    fed-text _ _ _ _ f.ensures.result_value _ _ refl f.ensures.out_after ∙ ap (printed (streamed c.loop-rest.stream)) (sym c.split_at.ensures.front)

pub loop-rest-smaller : goal.loop-rest-smaller
loop-rest-smaller g c = let l = c.loop-rest in
    let left = some_left l.rest.now (sym c.is_empty.ensures ∙ c.loop-rest-test.true) in
    let some = fed-some _ _ _ _ c.feed-fed.ensures.result_value (omega (arith, l.invariant.room, c.requires)) left in
    omega (arith, c.split_at.ensures.back_len, some)

pub loop-rest-preserved : goal.loop-rest-preserved
loop-rest-preserved g c = let l = c.loop-rest in
    let f = c.feed-fed in
    let next = fed-stream _ _ _ _ f.ensures.result_value in
    let front = c.split_at.ensures.front in
    let back = c.split_at.ensures.back in
    record {
      room = f.auto.out ∙ l.invariant.room;
      stream = ap (after (streamed f.result.stream)) back ∙ after_parts _ _ l.rest.now f.result.used next ∙ l.invariant.stream;
      written = λ held behind. l.invariant.written held (subst (Appends _ held) (printed_parts _ _ l.rest.now f.result.used next)
          (rw (front, back) at (Appends-trans _ _ _ _ _ c.in_ok-write_printed.ensures behind)));
    }

pub returns-clause-stream_after : goal.returns-clause-stream_after
unfolding after
returns-clause-stream_after g c = let l = c.loop-rest in
    rw (nothing_left l.rest.now (sym c.is_empty.ensures ∙ c.loop-rest-test.false)) at l.invariant.stream

pub returns-clause-written : goal.returns-clause-written
unfolding printed
returns-clause-written g c = let l = c.loop-rest in
    let none = nothing_left l.rest.now (sym c.is_empty.ensures ∙ c.loop-rest-test.false) in
    let held = g.W.Write.contents l.to in
    l.invariant.written held (subst (λ (text : List ℕ). Appends held held (printed (streamed l.stream) text)) (sym none) (Appends-nil held))
