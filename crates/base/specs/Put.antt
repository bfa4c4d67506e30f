-- A run of bytes written into a lent buffer from a place on, and the place behind it.
use Rattle.std.specs.Prelude.{◌≡◌, ℕ, ◌+◌, List, length}
use Rattle.base.specs.BigEndian.{overwrite}

-- the bytes b stand in `after` from place `at` on, the rest as in `before`, and `next` is behind them
pub record Put (at : ℕ) (b before after : List ℕ) (next : ℕ) : Type 0 where
  pub contents : after ≡ overwrite at b before
  pub place : next ≡ at + length b
