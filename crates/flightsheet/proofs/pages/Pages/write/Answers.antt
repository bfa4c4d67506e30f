-- The buffer has a page's length, so that it holds the page alone.
use Rattle.std.proofs.Common.{ℕ, subst}
use Rattle.std.proofs.lemmas.List.{length-replicate}
use Rattle.std.specs.Io.KnownBytes.{Appends}
use Rattle.flightsheet.proofs.PagesLaws.{page-only}
use Rattle.flightsheet.proofs.pages.Pages.write.Goals as goal

pub returns : goal.returns
returns g c =
    let p = c.args.self.now in
    let page = c.in_ok-write_page.ensures in
    let text = page-only p.number c.as_slice.result.now p.held p.craft.map p.craft.magnets c.in_ok-write_page.field-0 _ c.write_page.new.out
    c.as_slice.ensures page.value page.out_after page.long (length-replicate {A = ℕ} 2214 0) in
    subst (Appends (g.W.Write.contents c.args.to.now) (g.W.Write.contents c.write_all.new.self)) text c.in_ok-write_all.ensures.bytes
