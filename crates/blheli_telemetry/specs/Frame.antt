-- The frame of the KISS ESC telemetry document: ten bytes, the last the CRC of the nine before it.
use Rattle.std.specs.Prelude.{ℕ, ◌<◌, ◌^◌, List, [], ◌∷◌, ◌++◌, eqb, leb, length, get_or, take}
use Rattle.base.specs.Choice.{pick}
use Rattle.base.specs.Reply.{Reply, accepted, refused}
use Rattle.base.specs.BigEndian.{number_at, bytes_of, overwrite}
use Rattle.blheli_telemetry.specs.Crc.{crc_of}
use Rattle.blheli_telemetry.specs.declared.frame.EscTelemetry.{EscTelemetry}

-- temperature in °C, voltage in 0.01 V, current in 0.01 A, consumption in mAh, eRPM / 100: where each stands
unfoldable pub telemetry_of : List ℕ → EscTelemetry
telemetry_of f =
    record {
      temperature_c = number_at 1 f 0;
      voltage_cv = number_at 2 f 1;
      current_ca = number_at 2 f 3;
      consumption_mah = number_at 2 f 5;
      erpm_div100 = number_at 2 f 7;
    }

-- the nine bytes before the check byte
unfoldable pub payload_of : EscTelemetry → List ℕ
payload_of t =
    bytes_of 1 t.temperature_c
    ++ (bytes_of 2 t.voltage_cv
    ++ (bytes_of 2 t.current_ca
    ++ (bytes_of 2 t.consumption_mah
    ++ bytes_of 2 t.erpm_div100)))

unfoldable pub frame_of : EscTelemetry → List ℕ
frame_of t = payload_of t ++ (crc_of (payload_of t) ∷ [])

-- reading: 5 where the frame has not ten bytes, 10 where the tenth is not the CRC of the nine
unfoldable pub read_frame : List ℕ → Reply EscTelemetry
read_frame f =
    pick (eqb (length f) 10)
    (pick (eqb (crc_of (take 9 f)) (get_or f 9 0)) (accepted (telemetry_of f)) (refused 10))
    (refused 5)

-- writing: 9 where the lent output has not ten entries
unfoldable pub frame_reply : List ℕ → Reply (Unit {0})
frame_reply out = pick (leb 10 (length out)) (accepted tt) (refused 9)

-- the lent output afterwards: the frame from its first entry on, and the rest as found; all as found where it is refused
unfoldable pub frame_written : EscTelemetry → List ℕ → List ℕ
frame_written t out = pick (leb 10 (length out)) (overwrite 0 (frame_of t) out) out

-- the values that the fields' types have
pub record Ranged (t : EscTelemetry) : Type 0 where
  pub temperature : t.temperature_c < 2 ^ 8
  pub voltage : t.voltage_cv < 2 ^ 16
  pub current : t.current_ca < 2 ^ 16
  pub consumption : t.consumption_mah < 2 ^ 16
  pub erpm : t.erpm_div100 < 2 ^ 16
