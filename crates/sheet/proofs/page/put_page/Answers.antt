-- Row one comes first, and each turn puts the row at its place behind those before it.
use Rattle.std.proofs.Common.{ℕ, arith, slice_get}
use Rattle.lent_samples.specs.Samples.{samples_of}
use Rattle.sheet.specs.Row.{head_text}
use Rattle.sheet.specs.Page.{place_text}
use Rattle.sheet.proofs.PageLaws.{standing-first, standing-more, standing-page}
use Rattle.sheet.proofs.page.put_page.Goals as goal

pub loop-place-init : goal.loop-place-init
loop-place-init c = let piece = λ (place : ℕ). place_text c.args.map c.args.magnets (slice_get (samples_of c.args.samples.now) place) in
    standing-first c.args.at (head_text c.args.number) c.args.out.now c.put.new.out piece
    (rw (c.as_slice.ensures, c.head.ensures.text) at c.put.ensures) (rw (c.head.ensures.text) at c.head.ensures.long)

pub loop-place-preserved : goal.loop-place-preserved
loop-place-preserved c = let row = c.place_row-row.ensures in
    standing-more c.args.at c.loop-place.place _ c.args.out.now c.loop-place.out _ c.put-in-loop-place.new.out c.loop-place.invariant
    (rw (c.as_slice-in-loop-place.ensures, row.text) at c.put-in-loop-place.ensures) (rw (row.text) at row.long)
    (omega (arith, c.requires, c.loop-place-test.true))

pub returns-clause-out_after : goal.returns-clause-out_after
returns-clause-out_after c = (standing-page _ _ _ _ _ _ _ _ c.loop-place.invariant c.loop-place-test.false c.loop-place.auto.place-end).contents

pub returns-clause-long : goal.returns-clause-long
returns-clause-long c = (standing-page _ _ _ _ _ _ _ _ c.loop-place.invariant c.loop-place-test.false c.loop-place.auto.place-end).length
