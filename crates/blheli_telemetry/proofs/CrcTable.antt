-- The CRC's table: the bitwise rule at each of its 256 entries, by one computed test.
use mathlib.Core.Bool.{Bool}
use mathlib.Core.List.{List}
use Prim.Native.Nat.{ℕ, ◌<◌}
use lib.Dec.{T, eqb, eqb→eq}
use lib.ListN.{length, get_or}
use mathlib.Core.Path.{◌≡◌, subst, sym}
use Rattle.blheli_telemetry.specs.Crc.{crc_bits, CrcTabled}
use Rattle.base.proofs.Table.{every, at}

-- does an entry stand where the rule has it?
abbrev pub right : ℕ → ℕ → Bool
right byte entry = eqb entry (crc_bits byte)

pub tabled : (table : List ℕ) → length table ≡ 256 → T (every right 0 table) → CrcTabled table
tabled table l test =
    record { rule = λ byte h. eqb→eq (get_or table byte 0) (crc_bits byte) (at right table test byte (subst (λ (n : ℕ). byte < n) (sym l) h)) }
