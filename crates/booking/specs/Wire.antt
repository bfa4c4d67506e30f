-- Frame ends, from the bytes and cuts of the wire alone (document 01, 'Frame').
use Rattle.std.specs.Prelude.{ℕ, zero, suc, Bool, true, false, not, ◌&&◌, List, [], ◌∷◌, ◌++◌, eqb}
use Rattle.std.specs.Prelude.{Option, None, Some, is_some}
use Rattle.base.specs.Choice.{pick}
use Rattle.blheli_telemetry.specs.declared.frame.EscTelemetry.{EscTelemetry}
use Rattle.blheli_telemetry.specs.Crc.{crc_of}
use Rattle.blheli_telemetry.specs.Frame.{telemetry_of}
use Rattle.booking.specs.History.{Byte, Past}

pub data OnWire : Type 0 where
  byte : ℕ → OnWire
  cut : OnWire

abbrev pub on_wire : Option Byte → Bool → List OnWire → List OnWire
on_wire None true w = cut ∷ w
on_wire None false w = w
on_wire (Some b) c w = byte b.value ∷ w

-- the bytes and cuts, newest first
unfoldable pub wire : Past → List OnWire
wire [] = []
wire (e ∷ h) = on_wire e.wire.byte e.wire.cut (wire h)

-- the ten bytes of a frame, where the tenth is the CRC of the nine
abbrev pub checked : ℕ → Option (List ℕ) → Option (List ℕ)
checked b None = None
checked b (Some nine) = pick (eqb (crc_of nine) b) (Some (nine ++ b ∷ [])) None

abbrev pub one_more : Option (List ℕ) → Option (List ℕ) → ℕ → Option (List ℕ)
one_more (Some frame) bytes b = None
one_more None None b = None
one_more None (Some bytes) b = Some (bytes ++ b ∷ [])

-- the latest n bytes, oldest first, if no cut is among them and none of them is a frame end
unfoldable pub latest : List OnWire → ℕ → Option (List ℕ)
latest [] zero = Some []
latest [] (suc n) = None
latest (cut ∷ w) zero = Some []
latest (cut ∷ w) (suc n) = None
latest (byte b ∷ w) zero = Some []
latest (byte b ∷ w) (suc n) = one_more (checked b (latest w 9)) (latest w n) b

-- a byte is a frame end when it and the nine before it have no cut between first and tenth, it is the CRC of the nine,
-- and none of those nine is a frame end; the ten bytes
unfoldable pub frame_at : List OnWire → ℕ → Option (List ℕ)
frame_at w b = checked b (latest w 9)

-- a frame and the T of its frame end
pub record Frame : Type 0 where
  pub bytes : List ℕ
  pub at : ℕ

abbrev pub timed : Option (List ℕ) → ℕ → Option Frame
timed None t = None
timed (Some f) t = Some (record { bytes = f; at = t })

abbrev pub frame_in : List OnWire → Option Byte → Option Frame
frame_in w None = None
frame_in w (Some b) = timed (frame_at w b.value) b.at

-- a tenth byte that is not the CRC of the nine
abbrev pub wrong_in : List OnWire → Option Byte → Bool
wrong_in w None = false
wrong_in w (Some b) = is_some (latest w 9) && not (is_some (frame_at w b.value))

-- what the parser gives at a byte: the frame's telemetry at a frame end
abbrev pub parsed : Option (List ℕ) → Option EscTelemetry
parsed None = None
parsed (Some f) = Some (telemetry_of f)
