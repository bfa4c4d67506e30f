-- Each turn puts a page behind those before it, and leaves the samples of the next.
use Rattle.std.proofs.Common.{ℕ, ◌∙◌, ◌*◌, sym, ap, arith, refl, drop, drop-drop}
use Rattle.std.proofs.lemmas.List.{drop-map}
use Rattle.lent_samples.specs.Samples.{lent_sample, samples_of}
use Rattle.sheet.proofs.PageLaws.{standing-next, standing-none}
use Rattle.sheet.proofs.sheet.put_pages.Goals as goal

pub loop-page-init : goal.loop-page-init
loop-page-init c = record { standing = standing-none c.args.out.now; left = refl }

pub loop-page-preserved : goal.loop-page-preserved
loop-page-preserved c = let l = c.loop-page in
    let left = ap samples_of l.invariant.left ∙ sym (drop-map lent_sample (l.page * 40) c.args.samples.now) in
    record {
      standing =
          standing-next l.page c.args.out.now l.out _ c.put_page.new.out l.invariant.standing (rw left at c.put_page.ensures.out_after)
          (rw left at c.put_page.ensures.long) (omega (arith, c.requires, c.loop-page-test.true));
      left = c.behind_page-rest.ensures ∙ ap (drop 40) l.invariant.left ∙ drop-drop 40 (l.page * 40) c.args.samples.now
          ∙ ap (λ (n : ℕ). drop n c.args.samples.now) (omega arith);
    }
