-- As for a sheet; more samples than a page has room for are refused first.
use Rattle.std.proofs.Common.{◌≡◌, ◌∙◌, sym, ap, length, rules}
use Rattle.base.specs.Reply.{replied}
use Rattle.sheet.specs.Sheet.{sheet_reply}
use Rattle.sheet.proofs.SheetLaws.{told-both, told-refused, page-short, page-too-long, page-one, page-told-length, page-written, page-refused}
use Rattle.sheet.proofs.sheet.write_page.Goals as goal

pub returns-then-samples-clause-value : goal.returns-then-samples-clause-value
returns-then-samples-clause-value c = sym (page-too-long c.args.samples.now _ _ c.if-samples.true)

pub returns-then-samples-clause-out_after : goal.returns-then-samples-clause-out_after
returns-then-samples-clause-out_after c = sym (page-refused _ _ c.args.map _ _ c.args.out.now (page-too-long c.args.samples.now _ _ c.if-samples.true))

pub returns-in_err-len-clause-value : goal.returns-in_err-len-clause-value
returns-in_err-len-clause-value c =
    let told : replied c.from_residual.result ≡ sheet_reply c.args.samples.now c.args.magnets (length c.args.out.now) = search rules in
    told ∙ sym (page-short c.args.samples.now _ _ c.if-samples.false)

pub returns-in_err-len-clause-out_after : goal.returns-in_err-len-clause-out_after
returns-in_err-len-clause-out_after c =
    let told = told-refused _ _ _ (sym (ap replied c.in_err-len.was) ∙ c.sheet_fits.ensures) in
    sym (page-refused _ _ c.args.map _ _ c.args.out.now (page-short c.args.samples.now _ _ c.if-samples.false ∙ told))

pub put_page-requires : goal.put_page-requires
put_page-requires c =
    let told = told-both _ _ _ _ (sym (ap replied c.in_ok-len.was) ∙ c.sheet_fits.ensures) in
    (page-one _ _ _ _ c.if-samples.false told.0).1

pub returns-clause-value : goal.returns-clause-value
returns-clause-value c =
    let told = told-both _ _ _ _ (sym (ap replied c.in_ok-len.was) ∙ c.sheet_fits.ensures) in
    sym (page-short c.args.samples.now _ _ c.if-samples.false ∙ told.0)

pub returns-clause-out_after : goal.returns-clause-out_after
returns-clause-out_after c =
    let told = told-both _ _ _ _ (sym (ap replied c.in_ok-len.was) ∙ c.sheet_fits.ensures) in
    let page = page-short c.args.samples.now _ _ c.if-samples.false ∙ told.0 in
    c.put_page.ensures.out_after ∙ page-written _ _ c.args.map c.args.magnets _ _ _ c.args.out.now page told.1 c.as_chunks.ensures.front

pub returns-clause-long : goal.returns-clause-long
returns-clause-long c =
    let told = told-both _ _ _ _ (sym (ap replied c.in_ok-len.was) ∙ c.sheet_fits.ensures) in
    let one = (page-one _ _ _ _ c.if-samples.false told.0).0 in
    page-told-length c.args.number c.args.samples.now c.args.map c.args.magnets _ _ _ c.put_page.ensures.long one told.1 c.as_chunks.ensures.front
