-- A test that always passed passes now, and did before.
use mathlib.Core.Path.{◌≡◌}
use mathlib.Core.Bool.{true}
use mathlib.Core.List.{◌∷◌}
use Rattle.attribution.specs.Marks.{LogEntry, Log}
use Rattle.attribution.specs.Tests.{EntryTest, always}
use Rattle.base.proofs.Both.{and_left, and_right}

module _ (t : EntryTest) (l : Log) (e : LogEntry) (x : always t (e ∷ l) ≡ true) where
  pub now : t l e ≡ true
  unfolding always
  now = and_left (t l e) _ x

  pub before : always t l ≡ true
  unfolding always
  before = and_right (t l e) _ x
