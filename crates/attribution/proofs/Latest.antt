-- The latest bytes of a wire: what one byte more makes of them, and what a frame end says of them.
use mathlib.Core.Path.{◌≡◌, refl, sym, ◌∙◌, ap}
use mathlib.Core.List.{List, [], ◌∷◌, ◌++◌}
use Rattle.std.specs.Prelude.{Option, None, Some}
use Rattle.std.proofs.lemmas.Option.{none-some, same_Some}
use mathlib.Core.Bool.{Bool, true, false}
use Prim.Native.Nat.{ℕ, zero, suc}
use native.Mathlib.Omega.{arith}
use lib.ListN.{length, length-append}
use lib.Dec.{eqb}
use borrow.Author.Tests.{eqb-true}
use Rattle.base.specs.Choice.{pick}
use Rattle.blheli_telemetry.specs.Crc.{crc_of}
use Rattle.booking.specs.Wire.{OnWire, byte, cut, checked, one_more, latest, frame_at}

-- no byte since the latest cut or frame end
abbrev pub Clean : List OnWire → Type 0
Clean w = latest w 1 ≡ None

pub latest-none : (w : List OnWire) → latest w 0 ≡ Some []
unfolding latest
latest-none [] = refl
latest-none (cut ∷ w) = refl
latest-none (byte b ∷ w) = refl

pub record Extends (w : List OnWire) (b n : ℕ) (bs : List ℕ) : Type 0 where
  pub shorter : List ℕ
  pub before : latest w n ≡ Some shorter
  pub whole : shorter ++ b ∷ [] ≡ bs

pub extends : (w : List OnWire) (b n : ℕ) (bs : List ℕ) → latest (byte b ∷ w) (suc n) ≡ Some bs → Extends w b n bs
unfolding latest
extends w b n bs e = go (checked b (latest w 9)) (latest w n) refl e
  where
    go : (f x : Option (List ℕ)) → latest w n ≡ x → one_more f x b ≡ Some bs → Extends w b n bs
    go (Some f) x y k = absurd (none-some bs k)
    go None None y k = absurd (none-some bs k)
    go None (Some xs) y k = record { shorter = xs; before = y; whole = same_Some _ _ k }

pub latest-length : (w : List OnWire) (n : ℕ) (bs : List ℕ) → latest w n ≡ Some bs → length bs ≡ n
unfolding latest
latest-length w zero bs e = ap length (sym (same_Some _ _ (sym (latest-none w) ∙ e)))
latest-length [] (suc n) bs e = absurd (none-some bs e)
latest-length (cut ∷ w) (suc n) bs e = absurd (none-some bs e)
latest-length (byte b ∷ w) (suc n) bs e =
    let x = extends w b n bs e in
    let k : length x.shorter ≡ n = latest-length w n x.shorter x.before in
    rw (← x.whole, length-append x.shorter (b ∷ [])) (omega arith)

-- the ten bytes of a frame end
pub record Ended (w : List OnWire) (b : ℕ) (f : List ℕ) : Type 0 where
  pub nine : List ℕ
  pub before : latest w 9 ≡ Some nine
  pub checks : b ≡ crc_of nine
  pub whole : f ≡ nine ++ b ∷ []

pub ended : (w : List OnWire) (b : ℕ) (f : List ℕ) → frame_at w b ≡ Some f → Ended w b f
unfolding frame_at
ended w b f e = go (latest w 9) refl e
  where
    tested : (nine : List ℕ) → latest w 9 ≡ Some nine → (c : Bool) → eqb (crc_of nine) b ≡ c → pick c (Some (nine ++ b ∷ [])) None ≡ Some f → Ended w b f
    tested nine x true c k = record { nine = nine; before = x; checks = sym (eqb-true _ _ c); whole = sym (same_Some _ _ k) }
    tested nine x false c k = absurd (none-some f k)

    go : (x : Option (List ℕ)) → latest w 9 ≡ x → checked b x ≡ Some f → Ended w b f
    go None x k = absurd (none-some f k)
    go (Some nine) x k = tested nine x (eqb (crc_of nine) b) refl k

-- a frame end leaves nothing
pub clean_end : (w : List OnWire) (b : ℕ) (f : List ℕ) → frame_at w b ≡ Some f → Clean (byte b ∷ w)
unfolding frame_at latest
clean_end w b f e = rw e

-- where nothing is left, no more than nothing is
pub clean-more : (w : List OnWire) (n : ℕ) → Clean w → latest w (suc n) ≡ None
unfolding latest
clean-more [] n e = refl
clean-more (cut ∷ w) n e = refl
clean-more (byte b ∷ w) n e = go (checked b (latest w 9)) (rw (latest-none w) at e)
  where
    go : (f : Option (List ℕ)) → one_more f (Some []) b ≡ None → one_more f (latest w n) b ≡ None
    go (Some f) k = refl
    go None k = absurd (none-some _ (sym k))
