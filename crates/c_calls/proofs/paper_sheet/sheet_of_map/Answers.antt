-- The map's length comes before all, and its motors behind what a sheet is refused by.
use Rattle.std.proofs.Common.{◌≡◌, ◌∙◌, sym, ap, length, rules}
use Rattle.base.specs.Reply.{replied}
use Rattle.sheet.specs.Sheet.{sheet_reply}
use Rattle.c_calls.proofs.SheetLaws.{short-map, short-left, no-sheet, nothing-left}
use Rattle.c_calls.proofs.paper_sheet.sheet_of_map.Goals as goal

pub returns-then-map-ne4-clause-value : goal.returns-then-map-ne4-clause-value
returns-then-map-ne4-clause-value c = sym (short-map c.args.samples.now c.args.map.now c.args.magnets c.args.out.now c.if-map-ne4.true)

pub returns-then-map-ne4-clause-out_after : goal.returns-then-map-ne4-clause-out_after
returns-then-map-ne4-clause-out_after c = sym (short-left c.args.samples.now c.args.map.now c.args.magnets c.args.out.now c.if-map-ne4.true)

pub returns-in_err-sheet_len-clause-value : goal.returns-in_err-sheet_len-clause-value
returns-in_err-sheet_len-clause-value c =
    let told : replied c.from_residual.result ≡ sheet_reply c.args.samples.now c.args.magnets (length c.args.out.now) = search rules in
    let number = sym c.sheet_len.ensures ∙ ap replied c.in_err-sheet_len.was in
    told ∙ number ∙ sym (no-sheet c.args.samples.now c.args.map.now c.args.magnets c.args.out.now _ c.if-map-ne4.false number)

pub returns-in_err-sheet_len-clause-out_after : goal.returns-in_err-sheet_len-clause-out_after
returns-in_err-sheet_len-clause-out_after c =
    let told = sym c.sheet_len.ensures ∙ ap replied c.in_err-sheet_len.was in
    sym (nothing-left c.args.samples.now c.args.map.now c.args.magnets c.args.out.now _ told)
