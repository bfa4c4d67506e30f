-- Where a digit makes no number, none of those behind it does.
use Rattle.std.proofs.Common.{◌∙◌, sym}
use Rattle.flightsheet.proofs.WordLaws.{no-number}
use Rattle.flightsheet.proofs.craft.Craft.number.Goals as goal

pub returns-in_err-number : goal.returns-in_err-number
returns-in_err-number c =
    let l = c.loop-digit in
    let some = sym c.is_empty.ensures ∙ c.if-is_empty.false in
    let none = sym c.with_digit.ensures ∙ c.in_err-number.was in
    c.from_residual.ensures ∙ sym (no-number c.args.word.now l.number l.digit-index some c.loop-digit-test.true l.invariant none)
