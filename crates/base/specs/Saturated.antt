-- A count that stops at the largest u32.
use Rattle.std.specs.Prelude.{ℕ, ◌+◌, ◌-◌, ◌^◌, min}

-- one more, held at the largest u32
abbrev pub saturated : ℕ → ℕ
saturated x = min (x + 1) (2 ^ 32 - 1)
