-- A line that was begun is answered as at an LF.
use native.Mathlib.Omega.{arith}
use borrow.Author.Rules.{rules}
use borrow.Author.Tests.{eqb-false}
use mathlib.Core.Path.{refl, sym, ap, ◌∙◌}
use mathlib.Core.List.{List}
use Prim.Native.Nat.{ℕ}
use lib.ListN.{length}
use lib.Seq.{length-take-le}
use Rattle.base.specs.Handed.{handed_reply, handed_output}
use Rattle.unit_text.proofs.FedLaws.{fed-fits}
use Rattle.unit_text.proofs.FinishLaws.{finish-some}
use Rattle.unit_text.proofs.stream.Stream.finish.Goals as goal

pub slice_bounds-text-end : goal.slice_bounds-text-end
slice_bounds-text-end c = let f = c.feed-fed in omega (arith, fed-fits _ _ _ _ f.ensures.result_value, f.auto.out)

pub slice_bounds-hand-end : goal.slice_bounds-hand-end
slice_bounds-hand-end c = let f = c.feed-fed in
    sym (length-take-le _ _ (omega (arith, fed-fits _ _ _ _ f.ensures.result_value, f.auto.out)))

pub returns : goal.returns
returns c = let f = c.feed-fed in
    let h = c.hand in
    let a = c.args in
    let text = finish-some _ _ f.new.out _ (eqb-false _ _ (sym c.is_empty.ensures ∙ search rules)) refl f.ensures.result_value f.ensures.out_after in
    record {
      result_value = h.ensures.result_value ∙ ap (λ (l : List ℕ). handed_reply l (length a.out.now)) text;
      out_after = h.ensures.out_after ∙ ap (λ (l : List ℕ). handed_output l a.out.now) text;
    }
