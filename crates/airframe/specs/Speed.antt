-- A motor's speed (document 01): eRPM/100 × 200 divided by magnets, rounded down.
use Rattle.std.specs.Prelude.{ℕ, ◌*◌, ◌/◌, ◌%◌, ◌==◌}
use Rattle.base.specs.Choice.{pick}
use Rattle.base.specs.Reply.{Reply, accepted, refused}

abbrev pub turns : ℕ → ℕ → ℕ
turns erpm magnets = erpm * 200 / magnets

-- a count of magnets: 11 where it is zero or odd
unfoldable pub read_magnets : ℕ → Reply ℕ
read_magnets n = pick (n == 0) (refused 11) (pick (n % 2 == 0) (accepted n) (refused 11))

-- 11 where magnets are zero or odd
unfoldable pub speed_of : ℕ → ℕ → Reply ℕ
speed_of erpm magnets =
    pick (magnets == 0) (refused 11)
    (pick (magnets % 2 == 0) (accepted (turns erpm magnets)) (refused 11))
