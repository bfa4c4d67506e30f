-- Counts as the unit keeps them, one event at a time, are the counts of the rule, modulo 2^32 or saturated.
use mathlib.Core.Path.{◌≡◌, refl}
use mathlib.Core.List.{[], ◌∷◌}
use mathlib.Core.Bool.{Bool, true, false}
use Prim.Native.Nat.{ℕ, ◌+◌}
use native.Mathlib.Omega.{arith}
use Rattle.esc_feedback.specs.Stats.{more}
use Rattle.booking.specs.History.{Past}
use Rattle.booking.specs.Counts.{SeenTest, one, count, wraps, saturates}
use Rattle.booking.proofs.Framing.{rises_if}

abbrev pub more_if : Bool → ℕ → ℕ
more_if true n = more n
more_if false n = n

unfoldable pub wrapping : SeenTest → Past → ℕ
wrapping t [] = 0
wrapping t (e ∷ h) = more_if (t h e) (wrapping t h)

unfoldable pub saturating : SeenTest → Past → ℕ
saturating t [] = 0
saturating t (e ∷ h) = rises_if (t h e) (saturating t h)

pub wrapping-is : (t : SeenTest) (h : Past) → wrapping t h ≡ wraps (count t h)
unfolding wrapping count
wrapping-is t [] = refl
wrapping-is t (e ∷ h) = go (wrapping-is t h) (t h e)
  where
    go : wrapping t h ≡ wraps (count t h) → (b : Bool) → more_if b (wrapping t h) ≡ wraps (one b + count t h)
    go k true = omega arith
    go k false = omega arith

pub saturating-is : (t : SeenTest) (h : Past) → saturating t h ≡ saturates (count t h)
unfolding saturating count
saturating-is t [] = refl
saturating-is t (e ∷ h) = go (saturating-is t h) (t h e)
  where
    go : saturating t h ≡ saturates (count t h) → (b : Bool) → rises_if b (saturating t h) ≡ saturates (one b + count t h)
    go k true = omega arith
    go k false = omega arith
