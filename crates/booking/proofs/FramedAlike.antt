-- The unit's parser is the one that belongs to the wire; and the latest bytes of a wire do not reach behind a cut.
use mathlib.Core.Path.{◌≡◌, refl, sym, ◌∙◌, ap, subst}
use mathlib.Core.List.{List, [], ◌∷◌, ◌++◌}
use Rattle.std.specs.Prelude.{Option}
use Prim.Native.Nat.{ℕ, zero, suc}
use Rattle.blheli_telemetry.specs.Parser.{push_of}
use Rattle.esc_unit.specs.declared.unit.Unit.{Unit}
use Rattle.booking.specs.History.{Since}
use Rattle.booking.specs.Wire.{OnWire, byte, cut, checked, latest, frame_at, parsed}
use Rattle.booking.specs.Run.{run}
use Rattle.booking.specs.Parser.{parser_of}
use Rattle.booking.specs.Claims.{FrameEnds, FramedAlike}
use Rattle.booking.proofs.ManagerState.{given-at}
use Rattle.booking.proofs.UnitSteps.{UnitAt}
use Rattle.booking.proofs.Traced.{Fits, fits_after}

pub frame-ends : FrameEnds
frame-ends cs s b e =
    let i : UnitAt s.opening s.past (run cs).unit = subst (λ (z : Option Since). Fits z (run cs).unit) e (fits_after cs) in
    ap (λ (u : Unit). (push_of (parser_of u) b).parsed) i.state ∙ given-at s.past i.p i.parser b

latest-local : (same v w : List OnWire) (n : ℕ) → latest (same ++ cut ∷ v) n ≡ latest (same ++ cut ∷ w) n
unfolding latest
latest-local [] v w zero = refl
latest-local [] v w (suc n) = refl
latest-local (cut ∷ same) v w zero = refl
latest-local (cut ∷ same) v w (suc n) = refl
latest-local (byte b ∷ same) v w zero = refl
latest-local (byte b ∷ same) v w (suc n) = rw (latest-local same v w 9, latest-local same v w n)

pub frame-local : (same v w : List OnWire) (b : ℕ) → frame_at (same ++ cut ∷ v) b ≡ frame_at (same ++ cut ∷ w) b
unfolding frame_at
frame-local same v w b = ap (checked b) (latest-local same v w 9)

pub framed_alike : FramedAlike
framed_alike cs ds s t same before before' b e f w v =
    frame-ends cs s b e
    ∙ ap parsed (ap (λ (z : List OnWire). frame_at z b) w ∙ frame-local same before before' b ∙ ap (λ (z : List OnWire). frame_at z b) (sym v))
    ∙ sym (frame-ends ds t b f)
