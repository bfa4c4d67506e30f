-- The volts stand before the point, and a digit for each decimal behind it.
use Rattle.sheet.proofs.FieldLaws.{volts-field}
use Rattle.sheet.proofs.field.volts.Goals as goal

pub returns : goal.returns
returns c = let same = c.from-cv.ensures in
    volts-field c.args.voltage_cv _ _ _ c.ranges.voltage_cv.fits (rw same at c.right.ensures) (rw same at c.digit.ensures) (rw same at c.digit-2.ensures)
