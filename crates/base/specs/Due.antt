-- Due(start, now, d) of document 01: now minus start, taken modulo 2^64, is at least d.
use Rattle.std.specs.Prelude.{ℕ, ◌+◌, ◌-◌, ◌%◌, ◌^◌, Bool, nat_le}

abbrev pub elapsed_from : ℕ → ℕ → ℕ
elapsed_from start now = (now + (2 ^ 64 - start)) % 2 ^ 64

unfoldable pub due : ℕ → ℕ → ℕ → Bool
due start now d = nat_le d (elapsed_from start now)
