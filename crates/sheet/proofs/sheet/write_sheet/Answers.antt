-- What fits is written whole; what does not leaves the output as found.
use Rattle.std.proofs.Common.{◌∙◌, sym, ap, arith}
use Rattle.base.specs.Reply.{replied}
use Rattle.sheet.proofs.SheetLaws.{told-both, told-refused, sheet-fitting, sheet-written, sheet-length, output-refused}
use Rattle.sheet.proofs.sheet.write_sheet.Goals as goal

pub returns-in_err-len-clause-out_after : goal.returns-in_err-len-clause-out_after
returns-in_err-len-clause-out_after c =
    let told = sym (ap replied c.in_err-len.was) ∙ c.sheet_fits.ensures in
    sym (output-refused _ c.args.map c.args.magnets _ c.args.out.now (told-refused _ _ _ told))

pub put_pages-requires : goal.put_pages-requires
put_pages-requires c =
    let told = told-both _ _ _ _ (sym (ap replied c.in_ok-len.was) ∙ c.sheet_fits.ensures) in
    let fitting = sheet-fitting _ _ _ _ told.0 in
    omega (arith, fitting.fits)

pub returns-clause-out_after : goal.returns-clause-out_after
returns-clause-out_after c =
    let told = told-both _ _ _ _ (sym (ap replied c.in_ok-len.was) ∙ c.sheet_fits.ensures) in
    c.put_pages.ensures.out_after ∙ sheet-written _ c.args.map c.args.magnets _ _ _ c.args.out.now told.0 told.1 c.as_chunks.ensures.front

pub returns-clause-long : goal.returns-clause-long
returns-clause-long c =
    let told = told-both _ _ _ _ (sym (ap replied c.in_ok-len.was) ∙ c.sheet_fits.ensures) in
    sheet-length c.args.samples.now c.args.map c.args.magnets _ _ _ _ told.0 c.put_pages.ensures.long told.1 c.as_chunks.ensures.front
