-- A sample with fewer than ten bytes since its 02 that are noise or of its request has another's byte.
use mathlib.Core.Path.{◌≡◌, refl}
use mathlib.Core.Bool.{Bool, true, false}
use mathlib.Core.List.{List, [], ◌∷◌, ◌++◌}
use Rattle.std.specs.Prelude.{Option, is_some}
use Prim.Native.Nat.{ℕ, ◌+◌, ◌≤◌}
use native.Mathlib.Omega.{arith}
use lib.Dec.{leb}
use lib.ListN.{length, length-append}
use borrow.Author.Tests.{le-leb}
use Rattle.esc_lanes.specs.declared.request.EscActuatorRequest.{EscActuatorRequest}
use Rattle.esc_lanes.specs.declared.request.EscTelemetryUpdate.{EscTelemetryUpdate}
use Rattle.booking.specs.Counts.{one}
use Rattle.attribution.specs.Marks.{Marked, Log}
use Rattle.attribution.specs.Origin.{requests, Arrival}
use Rattle.attribution.specs.Since.{taken_since, each, all}
use Rattle.attribution.specs.NeverAnotherArm.{no_other, NoOtherArm}
use Rattle.base.proofs.Both.{and_left, and_right}
use Rattle.attribution.proofs.Delivery.{delivered_in}
use Rattle.attribution.proofs.Lists.{rule_log}
use Rattle.attribution.proofs.Newest.{Refuted, refuted-by}

-- how many bytes pass a test
module _ (test : Option ℕ → Bool) where
  abbrev count_of : List Arrival → ℕ
  count_of [] = 0
  count_of (t ∷ ts) = one (test t.origin) + count_of ts

  count-append : (a b : List Arrival) → count_of (a ++ b) ≡ count_of a + count_of b
  count-append [] b = omega arith
  count-append (t ∷ a) b = rw (count-append a b) (omega arith)

  count-each : (ts : List Arrival) → each test ts ≡ true → count_of ts ≡ length ts
  count-each [] e = refl
  count-each (t ∷ ts) e = rw (and_left (test t.origin) _ e, count-each ts (and_right (test t.origin) _ e)) (omega arith)

abbrev own_of : List EscActuatorRequest → List Arrival → ℕ
own_of [] ts = 0
own_of (q ∷ qs) ts = count_of (no_other (length qs)) ts

abbrev pub ten_own : Log → Bool
ten_own l = leb 10 (own_of (requests l) (taken_since l))

own-ten : (l : Log) (u : EscTelemetryUpdate) → NoOtherArm l u → ten_own l ≡ true
own-ten l u c = le-leb 10 (own_of (requests l) (taken_since l)) (rw (c.latest, c.row.place) ten)
  where
    ten : 10 ≤ count_of (no_other (length c.earlier)) (c.row.before ++ (all c.ten ++ c.row.after))
    ten =
        let x = count-append (no_other (length c.earlier)) c.row.before (all c.ten ++ c.row.after) in
        let y = count-append (no_other (length c.earlier)) (all c.ten) c.row.after in
        let z = count-each (no_other (length c.earlier)) (all c.ten) c.own in
        let n = length-append c.ten.nine (c.ten.tenth ∷ []) in
        omega (arith, c.ten.count)

pub other_arm : (ms : List Marked) → is_some (delivered_in (rule_log ms)) ≡ true → ten_own (rule_log ms) ≡ false → Refuted NoOtherArm ms
other_arm = refuted-by NoOtherArm ten_own own-ten
