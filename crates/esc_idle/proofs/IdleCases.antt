-- Document 01's cases for the idle check, computed by its own definitions.
use Rattle.std.proofs.Common.{◌≡◌, ℕ, true, false, Some, refl}
use Rattle.base.specs.Due.{due}
use Rattle.esc_idle.specs.IdleConfig.{valid_settings, dshot_settings}
use Rattle.esc_idle.specs.IdleLane.{count_lane, newest_expired, expire_lane, expire_lanes, every_enough}
use Rattle.esc_idle.specs.Idle.{new_idle, weighed, status_of, measured, observe_of}
use Rattle.esc_lanes.specs.declared.output.EscOutput.{EscOutput}
use Rattle.esc_lanes.specs.declared.output.Lane.TheVariants.{Output1}
use Rattle.esc_lanes.specs.declared.request.EscTelemetryUpdate.{EscTelemetryUpdate}
use Rattle.esc_idle.specs.declared.idle_verdict.EscIdleQualificationFailure.TheVariants.{Overspeed}
use Rattle.esc_idle.specs.declared.idle_verdict.EscIdleQualificationStatus.{EscIdleQualificationStatus}
use Rattle.esc_idle.specs.declared.idle_verdict.EscIdleQualificationStatus.TheVariants.{Pending, Failed}

abbrev lane0 : EscOutput
lane0 = record { 0 = Output1 }

-- a first sample of lane 0 with a given eRPM/100, at the end of the grace time
abbrev sample : ℕ → EscTelemetryUpdate
sample erpm =
    record {
      output = lane0;
      observation =
          record {
            sample = record { temperature_c = 0; voltage_cv = 0; current_ca = 0; consumption_mah = 0; erpm_div100 = erpm };
            observed_at_ms = 250;
            request_sequence = 0;
          };
    }

-- the check's answer to it, with the boards' settings, whose max is 100
abbrev answer : ℕ → EscIdleQualificationStatus
answer erpm = (observe_of (new_idle dshot_settings 0) (sample erpm) 250).status

pub record IdleCases : Type 0 where
  -- age 200 with limit 200 fresh, 201 not
  pub fresh : newest_expired 200 200 (Some 0) ≡ false
  pub stale : newest_expired 200 201 (Some 0) ≡ true
  -- age 4294967295 with limit 4294967295 expires
  pub oldest : newest_expired 4294967295 4294967295 (Some 0) ≡ true
  -- max 100: 100 passes, 101 fails
  pub passes : answer 100 ≡ Pending
  pub fails : answer 101 ≡ Failed (Overspeed lane0 101)

pub idle-cases : IdleCases
unfolding due valid_settings count_lane newest_expired expire_lane expire_lanes every_enough weighed status_of measured observe_of
idle-cases = record { fresh = refl; stale = refl; oldest = refl; passes = refl; fails = refl }
