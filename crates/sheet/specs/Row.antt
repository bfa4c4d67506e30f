-- The rows of a page, each of 53 characters and an LF (document 02, Q-2).
use Rattle.std.specs.Prelude.{ℕ, ◌%◌, List, ◌++◌, codes, decimal}
use Rattle.esc_lanes.specs.declared.request.EscTelemetryUpdate.{EscTelemetryUpdate}
use Rattle.airframe.specs.Motor.{motor_number}
use Rattle.airframe.specs.BoardMap.{motor_on}
use Rattle.airframe.specs.Speed.{turns}
use Rattle.airframe.specs.declared.board_map.BoardMap.{BoardMap}
use Rattle.sheet.specs.Field.{blanks, right, volts}

-- 'Row one is "PAGE", the page number from 1 modulo 1,000,000 right-aligned in 6, and blanks'
unfoldable pub head_text : ℕ → List ℕ
head_text number = codes "PAGE" ++ right 6 (decimal (number % 1_000_000)) ++ blanks 43 ++ codes "\n"

-- 'Each following row holds sequence 10 wide, motor 1, observed time 20, speed 7, volts with two decimals 6, temperature 4, one space
-- between, all right-aligned'
unfoldable pub row_text : BoardMap → ℕ → EscTelemetryUpdate → List ℕ
row_text map magnets u =
    right 10 (decimal u.observation.request_sequence) ++ codes " "
    ++ right 1 (decimal (motor_number (motor_on map u.output))) ++ codes " "
    ++ right 20 (decimal u.observation.observed_at_ms) ++ codes " "
    ++ right 7 (decimal (turns u.observation.sample.erpm_div100 magnets)) ++ codes " "
    ++ right 6 (volts u.observation.sample.voltage_cv) ++ codes " "
    ++ right 4 (decimal u.observation.sample.temperature_c) ++ codes "\n"

unfoldable pub blank_row : List ℕ
blank_row = blanks 53 ++ codes "\n"
