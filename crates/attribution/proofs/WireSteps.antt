-- What one entry more makes of the wire and of the latest frame: a byte is added, or a cut, or nothing.
use mathlib.Core.Path.{◌≡◌, refl, sym, ◌∙◌, ap}
use mathlib.Core.List.{List, ◌∷◌}
use Rattle.std.specs.Prelude.{None, Some}
use Rattle.std.proofs.lemmas.Option.{none-some}
use mathlib.Core.Bool.{Bool, true, false}
use Prim.Native.Nat.{ℕ, zero, suc}
use Rattle.base.specs.Choice.{pick}
use Rattle.booking.specs.History.{Timed, Byte, Past}
use Rattle.booking.specs.Wire.{OnWire, byte, cut, wire, latest, frame_at}
use Rattle.booking.specs.Booking.{latest_frame}
use Rattle.attribution.specs.Marks.{LogEntry}
use Rattle.attribution.proofs.Latest.{Clean, latest-none}

-- without a byte, a wire is as it was or cut
pub wire-same : (h : Past) (e : LogEntry) → e.seen.wire.byte ≡ None → (c : Bool) → e.seen.wire.cut ≡ c → wire (e.seen ∷ h) ≡ pick c (cut ∷ wire
    h) (wire h)
unfolding wire
wire-same h e b true x = rw (b, x)
wire-same h e b false x = rw (b, x)

pub wire-more : (h : Past) (e : LogEntry) (b : Byte) → e.seen.wire.byte ≡ Some b → wire (e.seen ∷ h) ≡ byte b.value ∷ wire h
unfolding wire
wire-more h e b x = rw x

-- without a byte, a clean wire stays clean
pub clean-keeps : (h : Past) (e : LogEntry) → e.seen.wire.byte ≡ None → Clean (wire h) → Clean (wire (e.seen ∷ h))
unfolding latest
clean-keeps h e b i = go e.seen.wire.cut refl
  where
    go : (c : Bool) → e.seen.wire.cut ≡ c → Clean (wire (e.seen ∷ h))
    go true x = ap (λ (w : List OnWire). latest w 1) (wire-same h e b true x)
    go false x = ap (λ (w : List OnWire). latest w 1) (wire-same h e b false x) ∙ i

-- a frame end gives the latest frame
pub latest-now : (h : Past) (e : LogEntry) → e.seen.requests.granted ≡ None → (b : Byte) → e.seen.wire.byte ≡ Some b → (f : List ℕ)
    → frame_at (wire h) b.value ≡ Some f
    → latest_frame (e.seen ∷ h) ≡ Some (record { bytes = f; at = b.at })
unfolding latest_frame
latest-now h e g b x f y = rw (g, x, y)

pub frame_same : (h : Past) (e : LogEntry) → e.seen.requests.granted ≡ None → e.seen.wire.byte ≡ None → latest_frame (e.seen ∷ h) ≡ latest_frame h
unfolding latest_frame
frame_same h e g b = rw (g, b)

-- a grant leaves none
pub frame-none : (h : Past) (e : LogEntry) (g : Timed) → e.seen.requests.granted ≡ Some g → latest_frame (e.seen ∷ h) ≡ None
unfolding latest_frame
frame-none h e g x = rw x

-- a byte that ends no frame leaves the latest
pub frame-other : (h : Past) (e : LogEntry) → e.seen.requests.granted ≡ None → (b : Byte) → e.seen.wire.byte ≡ Some b → frame_at (wire h) b.value ≡ None
    → latest_frame (e.seen ∷ h) ≡ latest_frame h
unfolding latest_frame
frame-other h e g b x z = rw (g, x, z)

-- a cut takes bytes off the wire, and nothing puts one there
pub latest-same : (h : Past) (e : LogEntry) → e.seen.wire.byte ≡ None → (n : ℕ) (bs : List ℕ) → latest (wire (e.seen ∷ h)) n ≡ Some bs
    → latest (wire h) n ≡ Some bs
unfolding latest
latest-same h e b n bs = go e.seen.wire.cut refl n
  where
    go : (c : Bool) → e.seen.wire.cut ≡ c → (n : ℕ) → latest (wire (e.seen ∷ h)) n ≡ Some bs → latest (wire h) n ≡ Some bs
    go true x zero y = latest-none (wire h) ∙ sym (latest-none (wire (e.seen ∷ h))) ∙ y
    go true x (suc n) y = absurd (none-some bs (ap (λ (w : List OnWire). latest w (suc n)) (sym (wire-same h e b true x)) ∙ y))
    go false x n y = ap (λ (w : List OnWire). latest w n) (sym (wire-same h e b false x)) ∙ y
