-- A request that has sent its ten bytes sends no more, and one before the latest recovery or opening sends none: what the five assumptions say of one byte.
use mathlib.Core.Path.{◌≡◌, refl}
use mathlib.Core.List.{List, [], ◌∷◌, ◌++◌}
use Rattle.std.specs.Prelude.{Option, None, Some, is_some}
use mathlib.Core.Bool.{Bool, true, false, false≢true}
use Prim.Native.Nat.{ℕ, ◌≤◌, ◌<◌}
use native.Mathlib.Omega.{arith}
use lib.ListN.{length, length-append}
use lib.Dec.{eqb, leb, ltb}
use borrow.Author.Tests.{ltb-true, leb-true}
use Rattle.base.specs.Choice.{pick}
use Rattle.booking.specs.History.{Byte}
use Rattle.attribution.specs.Marks.{LogEntry, Log}
use Rattle.attribution.specs.Origin.{requests, add_byte, sent_by, at_recovery, at_opening}
use Rattle.attribution.specs.Tests.{of_origin}
use Rattle.attribution.specs.Wiring.{Scope, no_noise, asked_first, one_frame, quiet_recovery, quiet_opening, Wiring}
use Rattle.attribution.proofs.Always.{now, before}
use Rattle.attribution.proofs.Since.{requests-keep}

-- the requests numbered below n have nothing left to send
abbrev pub Spent : Log → ℕ → Type 0
Spent l n = (k : ℕ) → k < n → at_recovery l ≤ k → at_opening l ≤ k → 10 ≤ length (sent_by k l)

sent-grows : (k : ℕ) (o : Option ℕ) (b : Option Byte) (bs : List Byte) → length bs ≤ length (add_byte k o b bs)
sent-grows k o None bs = omega arith
sent-grows k None (Some b) bs = omega arith
sent-grows k (Some j) (Some b) bs = go (eqb j k)
  where
    go : (c : Bool) → length bs ≤ length (pick c (bs ++ b ∷ []) bs)
    go true = simp length-append (omega arith)
    go false = omega arith

module _ (l : Log) (e : LogEntry) (o : e.seen.opening ≡ None) (r : e.seen.requests.recovered ≡ false) where
  pub spent-keeps : (n : ℕ) → Spent l n → Spent (e ∷ l) n
  unfolding sent_by at_recovery at_opening
  spent-keeps n s k a b c =
      let x : 10 ≤ length (sent_by k l) = s k a (rw r at b) (rw o at c) in
      let y = sent-grows k e.origin e.seen.wire.byte (sent_by k l) in
      omega arith

  pub all-spent-keeps : e.seen.requests.granted ≡ None → Spent l (length (requests l)) → Spent (e ∷ l) (length (requests (e ∷ l)))
  all-spent-keeps g s = rw (requests-keep l e g) (spent-keeps (length (requests l)) s)

-- what is known of the origin of a byte
pub record Origin (l : Log) (o : Option ℕ) : Type 0 where
  pub number : ℕ
  pub known : o ≡ Some number
  pub granted : number < length (requests l)
  pub few : length (sent_by number l) < 10
  pub recovered : at_recovery l ≤ number
  pub opened : at_opening l ≤ number

pub none_left : (l : Log) (o : Option ℕ) → Origin l o → Spent l (length (requests l)) → ⊥
none_left l o m s =
    let a = s m.number m.granted m.recovered m.opened in
    let b = m.few in
    omega arith

module _ (scope : Scope) (l : Log) (e : LogEntry) (w : Wiring scope (e ∷ l)) where
  pub wiring-before : Wiring scope l
  wiring-before =
      record {
        e1 = before (no_noise scope) l e w.e1;
        e2 = before (asked_first scope) l e w.e2;
        e3 = before (one_frame scope) l e w.e3;
        e4 = before (quiet_recovery scope) l e w.e4;
        e5 = before (quiet_opening scope) l e w.e5;
      }

  pub origin : (b : Byte) → e.seen.wire.byte ≡ Some b → scope l ≡ true → Origin l e.origin
  origin b x s =
      go e.origin refl
      (rw (x, s) at (now (no_noise scope) l e w.e1))
      (rw (x, s) at (now (asked_first scope) l e w.e2))
      (rw (x, s) at (now (one_frame scope) l e w.e3))
      (rw (x, s) at (now (quiet_recovery scope) l e w.e4))
      (rw (x, s) at (now (quiet_opening scope) l e w.e5))
    where
      go : (o : Option ℕ) → e.origin ≡ o
          → is_some o ≡ true
          → of_origin (λ k. ltb k (length (requests l))) o ≡ true
          → of_origin (λ k. ltb (length (sent_by k l)) 10) o ≡ true
          → of_origin (λ k. leb (at_recovery l) k) o ≡ true
          → of_origin (λ k. leb (at_opening l) k) o ≡ true
          → Origin l o
      go None y e1 e2 e3 e4 e5 = absurd (false≢true e1)
      go (Some k) y e1 e2 e3 e4 e5 =
          record { number = k; known = refl; granted = ltb-true _ _ e2; few = ltb-true _ _ e3; recovered = leb-true _ _ e4; opened = leb-true _ _ e5 }
