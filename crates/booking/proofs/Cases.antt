-- The cases of document 01's 'Cases for the proved table', of the rules themselves: one theorem.
use mathlib.Core.Path.{◌≡◌, refl}
use mathlib.Core.Bool.{true, false}
use mathlib.Core.List.{List, [], ◌∷◌, ◌++◌, map, reverse}
use Rattle.std.specs.Prelude.{None, Some}
use Prim.Native.Nat.{ℕ}
use lib.ListN.{replicate}
use Rattle.blheli_telemetry.specs.Crc.{crc_bit, crc_bits, crc_byte, crc_from, crc_of}
use Rattle.blheli_telemetry.proofs.Cases.{FrameCases, frame-cases}
use Rattle.base.specs.Due.{due}
use Rattle.esc_lanes.specs.declared.output.Lane.TheVariants.{Output1}
use Rattle.esc_lanes.specs.declared.request.EscTelemetryUpdate.{EscTelemetryUpdate}
use Rattle.esc_idle.specs.declared.idle_config.EscIdleQualificationConfig.{EscIdleQualificationConfig}
use Rattle.esc_idle.specs.declared.idle_verdict.EscIdleQualificationFailure.TheVariants.{Overspeed}
use Rattle.esc_idle.specs.declared.idle_verdict.EscIdleQualificationStatus.{EscIdleQualificationStatus}
use Rattle.esc_idle.specs.declared.idle_verdict.EscIdleQualificationStatus.TheVariants.{Pending, Failed}
use Rattle.base.proofs.Cases.{DueCases, due-cases}
use Rattle.esc_idle.proofs.IdleCases.{IdleCases, idle-cases}
use Rattle.airframe.proofs.Cases.{SpeedCases, speed-cases}
use Rattle.booking.specs.Wire.{OnWire, byte, latest, frame_at}
use Rattle.booking.specs.IdleRule.{expired, judged_at}

-- the bytes of a wire, oldest first
abbrev wire_of : List ℕ → List OnWire
wire_of bytes = map byte (reverse bytes)

abbrev settings : ℕ → EscIdleQualificationConfig
settings age =
    record {
      min_erpm_div100 = 30;
      max_erpm_div100 = 100;
      spinup_grace_ms = 0;
      timeout_ms = 1200;
      max_sample_age_ms = age;
      required_consecutive_samples = 3;
    }

-- a sample of lane 0, observed at 0
abbrev sample : ℕ → EscTelemetryUpdate
sample erpm =
    record {
      output = record { 0 = Output1 };
      observation =
          record {
            sample = record { temperature_c = 0; voltage_cv = 0; current_ca = 0; consumption_mah = 0; erpm_div100 = erpm };
            observed_at_ms = 0;
            request_sequence = 0;
          };
    }

abbrev answer : ℕ → EscIdleQualificationStatus
answer erpm = judged_at (record { config = settings 200; start = 0 }) (Some (sample erpm)) 0 (λ l. [])

pub record TableCases : Type 0 where
  -- CRC of nothing, of 80, of "123456789"; the parser from empty on ten 00, on eight 00, 1e, 5a and with 5b
  pub frames : FrameCases
  -- the same three of the frame ends
  pub ten-zeros : frame_at (wire_of (replicate 9 0x00)) 0x00 ≡ Some (replicate 10 0x00)
  pub erpm-30 : frame_at (wire_of (replicate 8 0x00 ++ 0x1e ∷ [])) 0x5a ≡ Some (replicate 8 0x00 ++ 0x1e ∷ 0x5a ∷ [])
  pub bad-check : frame_at (wire_of (replicate 8 0x00 ++ 0x1e ∷ [])) 0x5b ≡ None
  -- the four cases of Due
  pub dues : DueCases
  -- age 200 with limit 200 fresh, 201 not; age 4294967295 with limit 4294967295 expires
  pub fresh : expired (settings 200) 200 (sample 60) ≡ false
  pub stale : expired (settings 200) 201 (sample 60) ≡ true
  pub oldest : expired (settings 4294967295) 4294967295 (sample 60) ≡ true
  -- max 100: 100 passes, 101 fails
  pub passes : answer 100 ≡ Pending
  pub fails : answer 101 ≡ Failed (Overspeed (record { 0 = Output1 }) 101)
  -- the same of the unit's own check
  pub idle : IdleCases
  -- speed (70, 14) is 1000; 13 magnets give 11
  pub speed : SpeedCases

pub table-cases : TableCases
unfolding crc_bit crc_bits crc_byte crc_from crc_of latest frame_at due
table-cases =
    record {
      frames = frame-cases;
      ten-zeros = refl;
      erpm-30 = refl;
      bad-check = refl;
      dues = due-cases;
      fresh = refl;
      stale = refl;
      oldest = refl;
      passes = refl;
      fails = refl;
      idle = idle-cases;
      speed = speed-cases;
    }
