-- What is read so far is what the stream has passed, and what it prints at that is written.
use Rattle.std.proofs.Common.{◌≡◌, ℕ, Result, Ok, Err, ◌∙◌, sym, ap, arith}
use Rattle.std.specs.Result.{MatchResult, is_ok}
use Rattle.unitlines.proofs.SoFar.{so_far-none, so_far-more, so_far-end}
use Rattle.unitlines.proofs.session.run.Goals as goal

-- what has gone well with another error in place of its own has gone well
unmapped : {E E' : Type 0} (Q : E → Type 0) (r : Result ℕ E) (r' : Result ℕ E') (n : ℕ) → MatchResult r (λ x. r' ≡ Ok x) Q → is_ok r' ≡ is_ok r
    → r' ≡ Ok n → r ≡ Ok n
unmapped Q (Ok x) r' n m v e = cc (sym m ∙ e)
unmapped Q (Err x) r' n m v e = absurd (cc (sym (ap is_ok e) ∙ v))

pub loop-init : goal.loop-init
loop-init g c = so_far-none _ _ _ c.new-stream.ensures

pub loop-preserved : goal.loop-preserved
loop-preserved g c = let p = c.in_ok-stream.ensures in
    let read = unmapped _ _ _ _ c.map_err.ensures.cases c.map_err.ensures.variant c.in_ok-n.was in
    let bytes = rw read at c.read.ensures.bytes in
    so_far-more c.loop.invariant _ _ _ _ p.stream_after bytes.0 p.written

pub returns-then-n-eq0 : goal.returns-then-n-eq0
returns-then-n-eq0 g c = let none = c.if-n-eq0.true in
    let read = unmapped _ _ _ _ c.map_err.ensures.cases c.map_err.ensures.variant c.in_ok-n.was in
    let bytes = rw read at c.read.ensures.bytes in
    λ room. so_far-end c.loop.invariant _ _ (rw none at bytes.0) (bytes.1 none (omega (arith, room, c.loop.auto.input, c.read.auto.buf))) c.in_ok-finish.ensures
