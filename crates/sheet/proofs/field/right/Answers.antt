-- The last digit is written first, and then each one before it, as long as any is left.
use Rattle.std.proofs.Common.{◌≡◌, ℕ, suc, ◌-◌, ◌/◌, set, subst, arith}
use Rattle.sheet.specs.Field.{blanks}
use Rattle.sheet.proofs.FieldLaws.{Written, written-first, written-more, written-whole, written-room}
use Rattle.sheet.proofs.field.right.Goals as goal

pub loop-rest-init : goal.loop-rest-init
loop-rest-init g c = let W = g.row.W in
    let next : suc (W - 1) ≡ W = omega (arith, c.requires.0) in
    subst (λ (w : ℕ). Written w c.args.number (set (blanks w) (W - 1) c.digit.result) (W - 1) (c.args.number / 10)) next
    (written-first (W - 1) c.args.number c.digit.result (rw next c.requires.1) c.ranges.number.fits c.digit.ensures)

pub bounds-field-at-in-loop-rest : goal.bounds-field-at-in-loop-rest
bounds-field-at-in-loop-rest g c = omega (arith, c.loop-rest.invariant.within)

pub loop-rest-preserved : goal.loop-rest-preserved
loop-rest-preserved g c = let l = c.loop-rest in
    let next = written-room _ _ _ _ _ l.invariant c.loop-rest-test.true in
    let now = subst (λ (at : ℕ). Written g.row.W c.args.number l.field at l.rest) next l.invariant in
    written-more _ _ _ (l.at - 1) _ c.digit-in-loop-rest.result now c.loop-rest-test.true c.digit-in-loop-rest.ensures

pub returns : goal.returns
returns g c = written-whole _ _ _ _ _ c.loop-rest.invariant c.loop-rest-test.false
