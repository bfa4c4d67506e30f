-- No byte is of a request before the latest recovery or opening, since it would come later than the quiet time: so the two assumptions on
-- quiet follow from times.
use mathlib.Core.Path.{◌≡◌, refl}
use mathlib.Core.List.{[], ◌∷◌}
use Rattle.std.specs.Prelude.{Option, None, Some, is_some}
use mathlib.Core.Bool.{Bool, true, false, not, ◌&&◌, ◌||◌}
use Prim.Native.Nat.{ℕ, ◌≤◌}
use native.Mathlib.Omega.{arith}
use lib.Dec.{leb}
use borrow.Author.Tests.{le-leb}
use Rattle.booking.specs.History.{Byte}
use Rattle.booking.specs.Faults.{faulted}
use Rattle.attribution.specs.Marks.{LogEntry, Log, since_in, past}
use Rattle.attribution.specs.Origin.{at_recovery, at_opening}
use Rattle.attribution.specs.Tests.{always, of_origin}
use Rattle.attribution.specs.Wiring.{while_no_fault, of_each_byte, quiet_recovery, quiet_opening}
use Rattle.attribution.specs.Times.{clock_at, quiet_time}
use Rattle.attribution.specs.Attributed.{AttributedByTimes}
use Rattle.attribution.proofs.LawfulLog.{Lawful, opened, more, lawful-at}
use Rattle.attribution.proofs.Attributed.{attributed}
use Rattle.attribution.proofs.Heard.{earlier, stamped-byte}
use Rattle.attribution.proofs.Rested.{not_earlier, Times, times-before, clock-holds, answer-now}
use Rattle.attribution.proofs.Timely.{TimelySince, timely}

-- a byte's origin is no earlier request
late-enough : (l : Log) (e : LogEntry) → TimelySince l (since_in l) → Times (e ∷ l) → (n : ℕ) → n ≤ earlier l
    → of_each_byte while_no_fault (of_origin (λ k. leb n k)) l e ≡ true
late-enough l e i t n m = go e.seen.wire.byte refl (faulted (past l)) refl e.origin refl
  where
    go : (b : Option Byte) → e.seen.wire.byte ≡ b → (f : Bool) → faulted (past l) ≡ f → (o : Option ℕ) → e.origin ≡ o
        → (not (is_some b && not f) || of_origin (λ k. leb n k) o) ≡ true
    go None x f y o z = refl
    go (Some b) x true y o z = refl
    go (Some b) x false y None z = refl
    go (Some b) x false y (Some k) z =
        let c : clock_at l ≤ e.seen.now = clock-holds l e t (stamped-byte e.seen b x) in
        let p : earlier l ≤ k = not_earlier l (past l) (quiet_time l) e.seen.now i y c k (answer-now l e t b x y k z) in
        le-leb n k (omega arith)

record Quiets (l : Log) : Type 0 where
  e4 : always (quiet_recovery while_no_fault) l ≡ true
  e5 : always (quiet_opening while_no_fault) l ≡ true

quiets-more : (l : Log) (e : LogEntry) → Quiets l → TimelySince l (since_in l) → Times (e ∷ l) → Quiets (e ∷ l)
unfolding always
quiets-more l e q i t =
    record {
      e4 = rw (late-enough l e i t (at_recovery l) (omega arith)) q.e4;
      e5 = rw (late-enough l e i t (at_opening l) (omega arith)) q.e5;
    }

-- E4 and E5 follow from times
quiets : (l : Log) → Lawful l → Times l → Quiets l
unfolding always
quiets [] i t = record { e4 = refl; e5 = refl }
quiets (e ∷ l) (opened c b o i) t = quiets-more l e (quiets l i (times-before l e t)) (timely l i (times-before l e t)) t
quiets (e ∷ l) (more s r o x f i) t = quiets-more l e (quiets l i (times-before l e t)) (timely l i (times-before l e t)) t

pub attributed-by-times : AttributedByTimes
attributed-by-times ms later e l u x d t =
    let q = quiets (e ∷ l) (lawful-at ms later (e ∷ l) x) (record { clock = t.clock; prompts = t.answer; reopening = t.reopening }) in
    attributed ms later e l u x d (record { e1 = t.e1; e2 = t.e2; e3 = t.e3; e4 = q.e4; e5 = q.e5 })
