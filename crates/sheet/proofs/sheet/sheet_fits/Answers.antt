-- The samples are whole and on lanes, their pages have room, and the magnets were read.
use Rattle.std.proofs.Common.{◌∙◌, sym, ap, refl, arith}
use Rattle.base.specs.Reply.{replied}
use Rattle.sheet.proofs.SheetLaws.{magnets-same, sheet-accepted}
use Rattle.sheet.proofs.sheet.sheet_fits.Goals as goal

pub returns : goal.returns
returns c =
    let count = sym c.count_samples.ensures ∙ ap replied c.in_ok-count_samples.was in
    let magnets = sym c.try_from.ensures ∙ ap replied c.in_ok-magnets.was in
    let pages = c.pages_for-pages.ensures in
    let fits = sheet-accepted c.args.samples.now c.args.magnets _ c.args.room _ count (omega (arith, c.if-room-pages.false, pages)) magnets in
    rw (fits, magnets-same _ _ magnets, pages) refl
