-- What one entry more makes of the latest T: it grows, and is no less than a T that counts.
use mathlib.Core.Path.{◌≡◌}
use mathlib.Core.List.{◌∷◌}
use mathlib.Core.Bool.{Bool, true, false}
use Prim.Native.Nat.{◌≤◌, max}
use native.Mathlib.Omega.{arith}
use Rattle.base.specs.Choice.{pick}
use Rattle.booking.specs.History.{Seen}
use Rattle.attribution.specs.Marks.{LogEntry, Log}
use Rattle.attribution.specs.Clock.{latest_t}

module _ (kinds : Seen → Bool) (l : Log) (e : LogEntry) where
  pub time-grows : latest_t kinds l ≤ latest_t kinds (e ∷ l)
  unfolding latest_t
  time-grows = go (kinds e.seen)
    where
      go : (b : Bool) → latest_t kinds l ≤ pick b (max (latest_t kinds l) e.seen.now) (latest_t kinds l)
      go true = omega arith
      go false = omega arith

  pub time-now : kinds e.seen ≡ true → e.seen.now ≤ latest_t kinds (e ∷ l)
  unfolding latest_t
  time-now s = rw s (omega arith)
