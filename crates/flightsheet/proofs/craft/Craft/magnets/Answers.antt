-- The number that was read is the one that the magnets are.
use Rattle.std.proofs.Common.{◌∙◌, sym, ap}
use Rattle.base.specs.Reply.{accepted, replied}
use Rattle.flightsheet.specs.Craft.{magnets_read}
use Rattle.sheet.proofs.SheetLaws.{magnets-same}
use Rattle.flightsheet.proofs.craft.Craft.magnets.Goals as goal

pub returns : goal.returns
returns c =
    let read = sym (ap replied c.in_ok-try_from.was) ∙ c.try_from.ensures in
    ap accepted (sym (magnets-same _ _ (sym read))) ∙ read ∙ ap magnets_read (sym c.in-Some.is ∙ c.number.ensures)
