-- While no fault stands: that covers every moment at which a request is open, since no fault stands then.
use Rattle.std.specs.Prelude.{is_some}
use mathlib.Core.Path.{◌≡◌, refl, sym, ◌∙◌, ap}
use mathlib.Core.Bool.{Bool, true, false, not, false≢true}
use Rattle.booking.specs.Faults.{faulted}
use Rattle.attribution.specs.Marks.{past}
use Rattle.attribution.specs.Wiring.{while_no_fault}
use Rattle.attribution.proofs.Calm.{calm}
use Rattle.attribution.proofs.CameFrom.{Covers}

pub covers : Covers while_no_fault
covers l i k = go (faulted (past l)) refl
  where
    go : (f : Bool) → faulted (past l) ≡ f → not f ≡ true
    go false f = refl
    go true f = absurd (false≢true (ap is_some (sym (calm l i f)) ∙ k))
