-- The fields of each kind end where its record does, by a test that is computed over the table; and each is the number at its place.
use Rattle.std.proofs.Common.{◌≡◌, ℕ, ◌≤◌, Bool, List, eqb, replicate, refl, arith, eqb→eq}
use Rattle.base.proofs.BigEndianLaws.{number-one}
use Rattle.base.proofs.Table.{at}
use Rattle.esc_records.specs.Record.{width_of, last_kind, record_of}
use Rattle.esc_records.specs.Layout.{layouts, field_widths, place, fielded}

-- behind the last field stands the record's width
ends : ℕ → ℕ → Bool
ends k _ = eqb (place (field_widths k) 7) (width_of k)

pub ends_at : (k : ℕ) → k ≤ last_kind → place (field_widths k) 7 ≡ width_of k
unfolding ends layouts field_widths
ends_at k h = eqb→eq _ _ (at ends (replicate 15 0) tt k (omega arith))

-- what a record is read as is made of its fields, each as wide as the table has it and behind those before it
pub laid-out : (s : List ℕ) → record_of s ≡ fielded s
unfolding record_of fielded layouts field_widths
laid-out s = rw (number-one s 1, number-one s 5, number-one s 17) refl
