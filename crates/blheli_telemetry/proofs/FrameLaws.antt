-- Reading and writing a frame, one law for each way.
use mathlib.Core.Path.{◌≡◌, refl, ap}
use mathlib.Core.List.{List}
use Prim.Native.Nat.{ℕ}
use mathlib.Core.Bool.{Bool, true, false, false≢true}
use lib.Dec.{eqb}
use borrow.Author.Tests.{eq-eqb, ne_eqb, eqb-true}
use lib.ListN.{length, get_or, take}
use Rattle.base.specs.Choice.{pick}
use Rattle.base.specs.Reply.{accepted, refused, is_accepted}
use Rattle.blheli_telemetry.specs.Crc.{crc_of}
use Rattle.blheli_telemetry.specs.Frame.{telemetry_of, read_frame}
use Rattle.blheli_telemetry.specs.declared.frame.EscTelemetry.{EscTelemetry}

pub read_length : (f : List ℕ) → (length f ≡ 10 → ⊥) → read_frame f ≡ refused 5
unfolding read_frame
read_length f n = rw (ne_eqb _ _ n)

pub read-bad : (f : List ℕ) → length f ≡ 10 → (crc_of (take 9 f) ≡ get_or f 9 0 → ⊥) → read_frame f ≡ refused 10
unfolding read_frame
read-bad f n bad = rw (eq-eqb _ _ n, ne_eqb _ _ bad)

pub read-good : (f : List ℕ) → length f ≡ 10 → crc_of (take 9 f) ≡ get_or f 9 0 → read_frame f ≡ accepted (telemetry_of f)
unfolding read_frame
read-good f n good = rw (eq-eqb _ _ n, eq-eqb _ _ good)

-- what an accepted frame is known by
pub record Accepted (f : List ℕ) (t : EscTelemetry) : Type 0 where
  pub ten : length f ≡ 10
  pub check : crc_of (take 9 f) ≡ get_or f 9 0
  pub telemetry : telemetry_of f ≡ t

pub read-accepted : (f : List ℕ) (t : EscTelemetry) → read_frame f ≡ accepted t → Accepted f t
unfolding read_frame
read-accepted f t e = go (eqb (length f) 10) (eqb (crc_of (take 9 f)) (get_or f 9 0)) refl refl e
  where
    go : (n c : Bool) → eqb (length f) 10 ≡ n → eqb (crc_of (take 9 f)) (get_or f 9 0) ≡ c
        → pick n (pick c (accepted (telemetry_of f)) (refused 10)) (refused 5) ≡ accepted t → Accepted f t
    go true true n c e = record { ten = eqb-true _ _ n; check = eqb-true _ _ c; telemetry = cc }
    go true false n c e = absurd (false≢true (ap is_accepted e))
    go false c n _ e = absurd (false≢true (ap is_accepted e))
