-- A number is below another, or it is not.
use Rattle.std.proofs.Common.{◌≡◌, ℕ, ◌<◌, ◌≤◌, Bool, true, false, ltb, refl, ltb-false, ltb-true}

pub below_or_not : {P : Type 0} (a b : ℕ) → (a < b → P) → (b ≤ a → P) → P
below_or_not {P} a b f g = go (ltb a b) refl
  where
    go : (t : Bool) → ltb a b ≡ t → P
    go true e = f (ltb-true a b e)
    go false e = g (ltb-false a b e)
