-- Document 01's cases of Due, of the rule itself, by computation.
use Rattle.std.proofs.Common.{◌≡◌, ◌-◌, ◌^◌, true, false, refl}
use Rattle.base.specs.Due.{due}

pub record DueCases : Type 0 where
  -- Due(0,20,20) yes, Due(0,19,20) no, Due(5,4,1) yes, Due(2^64−1,5,10) no
  pub at : due 0 20 20 ≡ true
  pub before : due 0 19 20 ≡ false
  pub back : due 5 4 1 ≡ true
  pub wrapped : due (2 ^ 64 - 1) 5 10 ≡ false

pub due-cases : DueCases
unfolding due
due-cases = record { at = refl; before = refl; back = refl; wrapped = refl }
