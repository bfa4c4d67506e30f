-- The settings of the idle check, and when they are valid (document 01, 'Idle check').
use Rattle.std.specs.Prelude.{Bool, ◌&&◌, ltb}
use Rattle.esc_idle.specs.declared.idle_config.EscIdleQualificationConfig.{EscIdleQualificationConfig}

-- 0 < min < max, grace < timeout, and age and required are above 0
unfoldable pub valid_settings : EscIdleQualificationConfig → Bool
valid_settings c =
    ltb 0 c.min_erpm_div100
    && ltb c.min_erpm_div100 c.max_erpm_div100
    && ltb c.spinup_grace_ms c.timeout_ms
    && ltb 0 c.max_sample_age_ms
    && ltb 0 c.required_consecutive_samples

-- the settings that the boards use
abbrev pub dshot_settings : EscIdleQualificationConfig
dshot_settings =
    record {
      min_erpm_div100 = 30;
      max_erpm_div100 = 100;
      spinup_grace_ms = 250;
      timeout_ms = 1200;
      max_sample_age_ms = 200;
      required_consecutive_samples = 3;
    }
