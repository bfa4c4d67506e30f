-- The five assumptions on the wire, each of bytes taken in and their origins. Losses, values and cuts are free.
use Rattle.std.specs.Prelude.{ℕ, ◌≡◌, Bool, true, not, ◌&&◌, ◌||◌, leb, ltb, length}
use Rattle.std.specs.Prelude.{Option, is_some}
use Rattle.booking.specs.Faults.{faulted}
use Rattle.attribution.specs.Marks.{Log, past}
use Rattle.attribution.specs.Origin.{requests, sent_by, at_recovery, at_opening}
use Rattle.attribution.specs.Tests.{EntryTest, always, of_origin}

-- when a byte is spoken of
abbrev pub Scope : Type 0
Scope = Log → Bool

-- while no fault stands
abbrev pub while_no_fault : Scope
while_no_fault l = not (faulted (past l))

abbrev pub of_each_byte : Scope → (Option ℕ → Bool) → EntryTest
of_each_byte scope test l e = not (is_some e.seen.wire.byte && scope l) || test e.origin

-- E1, no noise: a byte has an origin
abbrev pub no_noise : Scope → EntryTest
no_noise scope l e = of_each_byte scope is_some l e

-- E2, asked first: its origin was granted before it
abbrev pub asked_first : Scope → EntryTest
asked_first scope l e = of_each_byte scope (of_origin (λ k. ltb k (length (requests l)))) l e

-- E3, one frame: at most ten bytes have one origin
abbrev pub one_frame : Scope → EntryTest
one_frame scope l e = of_each_byte scope (of_origin (λ k. ltb (length (sent_by k l)) 10)) l e

-- E4, quiet at a recovery: after a 07 answered yes no byte of an earlier request comes
abbrev pub quiet_recovery : Scope → EntryTest
quiet_recovery scope l e = of_each_byte scope (of_origin (λ k. leb (at_recovery l) k)) l e

-- E5, quiet at an opening: after a 00 no byte of an earlier request comes
abbrev pub quiet_opening : Scope → EntryTest
quiet_opening scope l e = of_each_byte scope (of_origin (λ k. leb (at_opening l) k)) l e

pub record Wiring (scope : Scope) (l : Log) : Type 0 where
  pub e1 : always (no_noise scope) l ≡ true
  pub e2 : always (asked_first scope) l ≡ true
  pub e3 : always (one_frame scope) l ≡ true
  pub e4 : always (quiet_recovery scope) l ≡ true
  pub e5 : always (quiet_opening scope) l ≡ true
