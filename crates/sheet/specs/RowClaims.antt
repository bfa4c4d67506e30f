-- What holds of every row (document 02, Q-2). In proofs/, `width`, `whole` and `row-53` say that it does.
use Rattle.std.specs.Prelude.{◌≡◌, ℕ, ◌<◌, ◌%◌, ◌^◌, ◌==◌, Some, List, decimal, drop, filter, length, position, slice_index, take}
use Rattle.std.specs.Char.{is_ascii_digit}
use Rattle.std.specs.Str.Parse.{digits_value}
use Rattle.base.specs.Reply.{accepted}
use Rattle.esc_lanes.specs.declared.request.EscTelemetryUpdate.{EscTelemetryUpdate}
use Rattle.airframe.specs.Motor.{motor_number}
use Rattle.airframe.specs.BoardMap.{motor_on}
use Rattle.airframe.specs.Speed.{read_magnets, turns}
use Rattle.airframe.specs.declared.motor.Motor.{Motor}
use Rattle.airframe.specs.declared.board_map.BoardMap.{BoardMap}
use Rattle.lent_samples.specs.SamplesBack.{SampleRanged}
use Rattle.sheet.specs.Field.{right, volts}
use Rattle.sheet.specs.Row.{head_text, row_text, blank_row}

-- 'sequence 10 wide, motor 1, observed time 20, speed 7, volts with two decimals 6, temperature 4', and the page's number 6: of every
-- value that its type has, and of every count of magnets that is accepted
pub record Widths : Type 0 where
  pub sequence : (n : ℕ) → n < 2 ^ 32 → length (right 10 (decimal n)) ≡ 10
  pub motor : (m : Motor) → length (right 1 (decimal (motor_number m))) ≡ 1
  pub time : (n : ℕ) → n < 2 ^ 64 → length (right 20 (decimal n)) ≡ 20
  pub speed : (erpm byte magnets : ℕ) → erpm < 2 ^ 16 → read_magnets byte ≡ accepted magnets → length (right 7 (decimal (turns erpm magnets))) ≡ 7
  pub voltage : (cv : ℕ) → cv < 2 ^ 16 → length (right 6 (volts cv)) ≡ 6
  pub temperature : (n : ℕ) → n < 2 ^ 8 → length (right 4 (decimal n)) ≡ 4
  pub page : (number : ℕ) → length (right 6 (decimal (number % 1_000_000))) ≡ 6

-- so many characters of a text, from a place on
abbrev pub column : ℕ → ℕ → List ℕ → List ℕ
column at width text = take width (drop at text)

-- the number that a text's digits spell, whatever else stands in it
abbrev pub number_in : List ℕ → ℕ
number_in text = digits_value 10 (filter is_ascii_digit text)

-- each column of a row spells its value whole; volts in hundredths, with two digits behind the point
pub record WholeRow (map : BoardMap) (magnets : ℕ) (u : EscTelemetryUpdate) : Type 0 where
  pub sequence : number_in (column 0 10 (row_text map magnets u)) ≡ u.observation.request_sequence
  pub motor : number_in (column 11 1 (row_text map magnets u)) ≡ motor_number (motor_on map u.output)
  pub time : number_in (column 13 20 (row_text map magnets u)) ≡ u.observation.observed_at_ms
  pub speed : number_in (column 34 7 (row_text map magnets u)) ≡ turns u.observation.sample.erpm_div100 magnets
  pub voltage : number_in (column 42 6 (row_text map magnets u)) ≡ u.observation.sample.voltage_cv
  pub point : slice_index (column 42 6 (row_text map magnets u)) 3 ≡ 0x2e
  pub temperature : number_in (column 49 4 (row_text map magnets u)) ≡ u.observation.sample.temperature_c

abbrev pub WholeRows : Type 0
WholeRows = (map : BoardMap) (byte magnets : ℕ) (u : EscTelemetryUpdate) → read_magnets byte ≡ accepted magnets → SampleRanged u
    → WholeRow map magnets u

-- '53 characters and an LF', which is its first
pub record Row53 (text : List ℕ) : Type 0 where
  pub long : length text ≡ 54
  pub ends : position (λ c. c == 0x0a) text ≡ Some 53

pub record Rows53 : Type 0 where
  pub head : (number : ℕ) → Row53 (head_text number)
  pub sample : (map : BoardMap) (byte magnets : ℕ) (u : EscTelemetryUpdate) → read_magnets byte ≡ accepted magnets → SampleRanged u
      → Row53 (row_text map magnets u)
  pub blank : Row53 blank_row
