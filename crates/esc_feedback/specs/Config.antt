-- The settings of `legacy_uart`.
use Rattle.esc_feedback.specs.declared.config.EscManagerConfig.{EscManagerConfig}

abbrev pub legacy_uart : EscManagerConfig
legacy_uart =
    record {
      boot_delay_ms = 5000;
      request_period_ms = 20;
      actuator_ack_timeout_ms = 20;
      telemetry_response_timeout_ms = 100;
      recovery_quiet_ms = 500;
    }
