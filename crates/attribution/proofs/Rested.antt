-- A byte taken in while no fault stands is not of a request that has rested; and what the three on times say of one entry.
use mathlib.Core.Path.{◌≡◌, refl}
use mathlib.Core.List.{◌∷◌}
use Rattle.std.specs.Prelude.{Some}
use mathlib.Core.Bool.{Bool, true, false}
use Prim.Native.Nat.{ℕ, ◌+◌, ◌≤◌, ◌<◌}
use native.Mathlib.Omega.{arith}
use lib.ListN.{length}
use lib.Dec.{leb}
use borrow.Author.Tests.{leb-true, leb-false, ltb-true}
use Rattle.booking.specs.History.{Byte, Past}
use Rattle.booking.specs.Faults.{faulted, quiet_since}
use Rattle.attribution.specs.Marks.{LogEntry, Log, past}
use Rattle.attribution.specs.Origin.{requests}
use Rattle.attribution.specs.Tests.{always}
use Rattle.attribution.specs.Times.{stamped, clock_at, last_heard, quiet_time, steady_clock, prompt, waits_for, patient_opening}
use Rattle.attribution.proofs.Always.{now, before}
use Rattle.attribution.proofs.Heard.{earlier}

-- nothing was heard after the quiet start, nor within the quiet time before a recovery or an opening of the requests before it
pub record Timely (l : Log) (h : Past) (quiet : ℕ) : Type 0 where
  pub granted : earlier l ≤ length (requests l)
  pub heard : (k : ℕ) → last_heard k l ≤ clock_at l
  pub waits : faulted h ≡ true → (k : ℕ) → last_heard k l ≤ quiet_since h
  pub rested : faulted h ≡ false → (k : ℕ) → k < earlier l → last_heard k l + quiet ≤ clock_at l

-- an answer comes within a quiet time of what was heard of its request, while no fault stands
abbrev pub Prompts : Log → Past → LogEntry → ℕ → Type 0
Prompts l h e quiet =
    (b : Byte) → e.seen.wire.byte ≡ Some b → faulted h ≡ false → (k : ℕ) → e.origin ≡ Some k
    → e.seen.now < last_heard k l + quiet

-- a byte taken in while no fault stands is not of a request that has rested
module _ (l : Log) (h : Past) (quiet now : ℕ) (i : Timely l h quiet) (f : faulted h ≡ false) (c : clock_at l ≤ now) where
  pub not_earlier : (k : ℕ) → now < last_heard k l + quiet → earlier l ≤ k
  not_earlier k p = go (leb (earlier l) k) refl
    where
      go : (t : Bool) → leb (earlier l) k ≡ t → earlier l ≤ k
      go true t = leb-true _ _ t
      go false t =
          let r = i.rested f k (leb-false _ _ t) in
          absurd (omega arith)

-- the three on times, of one log
pub record Times (l : Log) : Type 0 where
  pub clock : always steady_clock l ≡ true
  pub prompts : always prompt l ≡ true
  pub reopening : always patient_opening l ≡ true

module _ (l : Log) (e : LogEntry) (t : Times (e ∷ l)) where
  pub times-before : Times l
  times-before =
      record {
        clock = before steady_clock l e t.clock;
        prompts = before prompt l e t.prompts;
        reopening = before patient_opening l e t.reopening;
      }

  pub clock-holds : stamped e.seen ≡ true → clock_at l ≤ e.seen.now
  clock-holds m = leb-true _ _ (rw m at (now steady_clock l e t.clock))

  pub answer-now : Prompts l (past l) e (quiet_time l)
  answer-now b x f k o = ltb-true _ _ (rw (x, f, o) at (now prompt l e t.prompts))

  pub wait-now : waits_for l e.seen.opening ≡ true
  wait-now = now patient_opening l e t.reopening
