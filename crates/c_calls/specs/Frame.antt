-- A frame's fields as numbers in a lent buffer.
use Rattle.std.specs.Prelude.{ℕ, List, [], ◌∷◌, ◌==◌, nat_le, length}
use Rattle.base.specs.Choice.{pick}
use Rattle.base.specs.Reply.{Reply, accepted, refused, number_of}
use Rattle.base.specs.BigEndian.{overwrite}
use Rattle.blheli_telemetry.specs.Frame.{read_frame}
use Rattle.blheli_telemetry.specs.declared.frame.EscTelemetry.{EscTelemetry}

abbrev pub telemetry_by : ℕ → ℕ → ℕ → ℕ → ℕ → EscTelemetry
telemetry_by temperature voltage current consumption erpm =
    record {
      temperature_c = temperature;
      voltage_cv = voltage;
      current_ca = current;
      consumption_mah = consumption;
      erpm_div100 = erpm;
    }

-- in the frame's order
abbrev pub fields_of : EscTelemetry → List ℕ
fields_of t = t.temperature_c ∷ t.voltage_cv ∷ t.current_ca ∷ t.consumption_mah ∷ t.erpm_div100 ∷ []

-- the lowest number that fits: 5 the frame's length, 9 the lent room, 10 the check byte
unfoldable pub read_number : List ℕ → ℕ → ℕ
read_number f room = pick (length f == 10) (pick (nat_le 5 room) (number_of (read_frame f)) 9) 5

abbrev pub fields_on : Reply EscTelemetry → List ℕ → List ℕ
fields_on (accepted t) out = overwrite 0 (fields_of t) out
fields_on (refused number) out = out

-- the lent fields afterwards: all as found where the frame is refused
unfoldable pub fields_read : List ℕ → List ℕ → List ℕ
fields_read f out = pick (nat_le 5 (length out)) (fields_on (read_frame f) out) out
