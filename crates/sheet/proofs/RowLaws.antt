-- Every row has its width, its columns and its one LF: it is made of fields that are as wide as their values need at most.
use Rattle.std.proofs.Common.{◌≡◌, ℕ, ◌%◌, ◌^◌, ◌<◌, ◌≤◌, List, [], ◌∷◌, ◌++◌}
use Rattle.std.proofs.Common.{All, eqb, length, decimal, codes}
use Rattle.std.proofs.Common.{refl, arith, append_assoc, length-append, take_at, drop_at, div-lt_iff_lt-mul}
use Rattle.std.specs.List.{position_or_len}
use Rattle.std.proofs.lemmas.Bool.Decides.{nat_tests}
use Rattle.std.proofs.lemmas.List.Elements.{All-append, All-head, All-tail, All-replicate, All-from_recursion}
use Rattle.base.specs.Reply.{accepted}
use Rattle.esc_lanes.specs.declared.request.EscTelemetryUpdate.{EscTelemetryUpdate}
use Rattle.airframe.specs.Motor.{numeral, motor_number}
use Rattle.airframe.specs.BoardMap.{motor_on}
use Rattle.airframe.specs.Speed.{read_magnets, turns}
use Rattle.airframe.specs.declared.motor.MotorNumber.{MotorNumber}
use Rattle.airframe.specs.declared.motor.MotorNumber.TheVariants.{One, Two, Three, Four}
use Rattle.airframe.specs.declared.motor.Motor.{Motor}
use Rattle.airframe.specs.declared.board_map.BoardMap.{BoardMap}
use Rattle.lent_samples.specs.SamplesBack.{SampleRanged}
use Rattle.sheet.specs.Field.{blank, blanks, right, volts}
use Rattle.sheet.specs.Row.{head_text, row_text, blank_row}
use Rattle.sheet.specs.RowClaims.{Widths, column, WholeRow, WholeRows, Row53, Rows53}
use Rattle.sheet.proofs.TextLaws.{Plain, Filled, number-filled, number-spelt, volts-filled, volts-spelt, volts-point}

-- no motor has two digits, and no speed eight: magnets that are accepted are two at least
motor-digit : (d : MotorNumber) → numeral d < 10
motor-digit One = omega arith
motor-digit Two = omega arith
motor-digit Three = omega arith
motor-digit Four = omega arith

two-magnets : (byte magnets : ℕ) → read_magnets byte ≡ accepted magnets → 2 ≤ magnets
unfolding read_magnets
two-magnets byte magnets e = grind (arith, nat_tests)

turns-fit : (erpm byte magnets : ℕ) → erpm < 2 ^ 16 → read_magnets byte ≡ accepted magnets → turns erpm magnets < 10 ^ 7
turns-fit erpm byte magnets h e =
    let two = two-magnets byte magnets e in
    let some : 0 < magnets = omega arith in
    (div-lt_iff_lt-mul some).1 (omega (arith, two, h))

-- a row's six texts, a blank between each two
abbrev six : List ℕ → List ℕ → List ℕ → List ℕ → List ℕ → List ℕ → List ℕ
six a b c d e f =
    a ++ blank ∷ [] ++ b ++ blank ∷ [] ++ c ++ blank ∷ [] ++ d ++ blank ∷ [] ++ e ++ blank ∷ [] ++ f

-- what stands between two texts
between : (row before text behind : List ℕ) (at width : ℕ) → row ≡ before ++ (text ++ behind) → length before ≡ at → length text ≡ width
    → column at width row ≡ text
between row before text behind at width e l m = rw (e, drop_at before (text ++ behind) at l) (take_at text behind width m)

-- so many characters, none of which is an LF, and an LF
lf-behind : (text : List ℕ) → All Plain text → position_or_len (λ c. eqb c 10) (text ++ 10 ∷ []) ≡ length text
lf-behind [] each = refl
lf-behind (c ∷ text) each = rw (All-head Plain c text each, lf-behind text (All-tail Plain c text each)) (omega arith)

row-of : (text : List ℕ) → Filled 53 text → Row53 (text ++ 10 ∷ [])
row-of text f =
    let long : length (text ++ 10 ∷ []) ≡ 54 = simp length-append (omega (arith, f.long)) in
    record { long = long; ends = rw (lf-behind text f.plain, long, f.long) refl }

-- each column of a row is its text
module _ (a b c d e f : List ℕ) (fa : Filled 10 a) (fb : Filled 1 b) (fc : Filled 20 c) (fd : Filled 7 d) (fe : Filled 6 e) (ff : Filled 4 f) where
  record Columns : Type 0 where
    at-0 : column 0 10 (six a b c d e f ++ 10 ∷ []) ≡ a
    at-11 : column 11 1 (six a b c d e f ++ 10 ∷ []) ≡ b
    at-13 : column 13 20 (six a b c d e f ++ 10 ∷ []) ≡ c
    at-34 : column 34 7 (six a b c d e f ++ 10 ∷ []) ≡ d
    at-42 : column 42 6 (six a b c d e f ++ 10 ∷ []) ≡ e
    at-49 : column 49 4 (six a b c d e f ++ 10 ∷ []) ≡ f

  columns : Columns
  columns =
      let row : List ℕ = six a b c d e f ++ 10 ∷ [] in
      let gap = blank ∷ [] in
      let t6 = f ++ 10 ∷ [] in
      let t5 = e ++ (gap ++ t6) in
      let t4 = d ++ (gap ++ t5) in
      let t3 = c ++ (gap ++ t4) in
      let t2 = b ++ (gap ++ t3) in
      let p2 : List ℕ = a ++ gap in
      let p3 : List ℕ = p2 ++ b ++ gap in
      let p4 : List ℕ = p3 ++ c ++ gap in
      let p5 : List ℕ = p4 ++ d ++ gap in
      let p6 : List ℕ = p5 ++ e ++ gap in
      let l2 : length p2 ≡ 11 = simp length-append (omega (arith, fa.long)) in
      let l3 : length p3 ≡ 13 = simp length-append (omega (arith, fa.long, fb.long)) in
      let l4 : length p4 ≡ 34 = simp length-append (omega (arith, fa.long, fb.long, fc.long)) in
      let l5 : length p5 ≡ 42 = simp length-append (omega (arith, fa.long, fb.long, fc.long, fd.long)) in
      let l6 : length p6 ≡ 49 = simp length-append (omega (arith, fa.long, fb.long, fc.long, fd.long, fe.long)) in
      record {
        at-0 = between row [] a (gap ++ t2) 0 10 (simp append_assoc) refl fa.long;
        at-11 = between row p2 b (gap ++ t3) 11 1 (simp append_assoc) l2 fb.long;
        at-13 = between row p3 c (gap ++ t4) 13 20 (simp append_assoc) l3 fc.long;
        at-34 = between row p4 d (gap ++ t5) 34 7 (simp append_assoc) l4 fd.long;
        at-42 = between row p5 e (gap ++ t6) 42 6 (simp append_assoc) l5 fe.long;
        at-49 = between row p6 f (10 ∷ []) 49 4 (simp append_assoc) l6 ff.long;
      }

  all-filled : Filled 53 (six a b c d e f)
  all-filled =
      let with = λ (s t : List ℕ) (u : All Plain s) (v : All Plain t).
      All-append Plain (s ++ blank ∷ []) t (All-append Plain s (blank ∷ []) u (All-replicate Plain 1 blank refl)) v in
      let three = with _ c (with a b fa.plain fb.plain) fc.plain in
      record {
        long = simp length-append (omega (arith, fa.long, fb.long, fc.long, fd.long, fe.long, ff.long));
        plain = with _ f (with _ e (with _ d three fd.plain) fe.plain) ff.plain;
      }

motor-filled : (m : Motor) → Filled 1 (right 1 (decimal (motor_number m)))
motor-filled m = let digit = motor-digit m.0 in number-filled 1 (motor_number m) (omega arith) (omega (arith, digit)) (omega (arith, digit))

turns-filled : (erpm byte magnets : ℕ) → erpm < 2 ^ 16 → read_magnets byte ≡ accepted magnets → Filled 7 (right 7 (decimal (turns erpm magnets)))
turns-filled erpm byte magnets h e =
    let fit = turns-fit erpm byte magnets h e in
    number-filled 7 (turns erpm magnets) (omega arith) fit (omega (arith, fit))

page-filled : (number : ℕ) → Filled 6 (right 6 (decimal (number % 1_000_000)))
page-filled number = number-filled 6 (number % 1_000_000) (omega arith) (omega arith) (omega arith)

pub width : Widths
width = record {
  sequence = λ n h. (number-filled 10 n (omega arith) (omega (arith, h)) (omega (arith, h))).long;
  motor = λ m. (motor-filled m).long;
  time = λ n h. (number-filled 20 n (omega arith) (omega (arith, h)) h).long;
  speed = λ erpm byte magnets h e. (turns-filled erpm byte magnets h e).long;
  voltage = λ cv h. (volts-filled cv h).long;
  temperature = λ n h. (number-filled 4 n (omega arith) (omega (arith, h)) (omega (arith, h))).long;
  page = λ number. (page-filled number).long;
}

module _ (map : BoardMap) (byte magnets : ℕ) (u : EscTelemetryUpdate) (good : read_magnets byte ≡ accepted magnets) (r : SampleRanged u) where
  abbrev sequence : List ℕ
  sequence = right 10 (decimal u.observation.request_sequence)

  abbrev motor : List ℕ
  motor = right 1 (decimal (motor_number (motor_on map u.output)))

  abbrev time : List ℕ
  time = right 20 (decimal u.observation.observed_at_ms)

  abbrev speed : List ℕ
  speed = right 7 (decimal (turns u.observation.sample.erpm_div100 magnets))

  abbrev voltage : List ℕ
  voltage = right 6 (volts u.observation.sample.voltage_cv)

  abbrev temperature : List ℕ
  temperature = right 4 (decimal u.observation.sample.temperature_c)

  row-is : row_text map magnets u ≡ six sequence motor time speed voltage temperature ++ 10 ∷ []
  unfolding row_text
  row-is = refl

  sequence-small : u.observation.request_sequence < 2 ^ 64
  sequence-small = omega (arith, r.sequence)

  temperature-small : u.observation.sample.temperature_c < 2 ^ 8
  temperature-small = r.telemetry.temperature

  turns-small : turns u.observation.sample.erpm_div100 magnets < 10 ^ 7
  turns-small = turns-fit u.observation.sample.erpm_div100 byte magnets r.telemetry.erpm good

  sequence-filled : Filled 10 sequence
  sequence-filled = number-filled 10 u.observation.request_sequence (omega arith) (omega (arith, r.sequence)) sequence-small

  time-filled : Filled 20 time
  time-filled = number-filled 20 u.observation.observed_at_ms (omega arith) (omega (arith, r.time)) r.time

  speed-filled : Filled 7 speed
  speed-filled = turns-filled u.observation.sample.erpm_div100 byte magnets r.telemetry.erpm good

  voltage-filled : Filled 6 voltage
  voltage-filled = volts-filled u.observation.sample.voltage_cv r.telemetry.voltage

  temperature-filled : Filled 4 temperature
  temperature-filled =
      number-filled 4 u.observation.sample.temperature_c (omega arith) (omega (arith, temperature-small)) (omega (arith, temperature-small))

  whole-row : WholeRow map magnets u
  whole-row =
      let c = columns sequence motor time speed voltage temperature sequence-filled (motor-filled (motor_on map u.output)) time-filled speed-filled
      voltage-filled temperature-filled in
      record {
        sequence = rw (row-is, c.at-0) (number-spelt 10 u.observation.request_sequence sequence-small);
        motor = rw (row-is, c.at-11) (number-spelt 1 (motor_number (motor_on map u.output)) (omega (arith, motor-digit (motor_on map u.output).0)));
        time = rw (row-is, c.at-13) (number-spelt 20 u.observation.observed_at_ms r.time);
        speed = rw (row-is, c.at-34) (number-spelt 7 (turns u.observation.sample.erpm_div100 magnets) (omega (arith, turns-small)));
        voltage = rw (row-is, c.at-42) (volts-spelt u.observation.sample.voltage_cv r.telemetry.voltage);
        point = rw (row-is, c.at-42) (volts-point u.observation.sample.voltage_cv r.telemetry.voltage);
        temperature = rw (row-is, c.at-49) (number-spelt 4 u.observation.sample.temperature_c (omega (arith, temperature-small)));
      }

  sample-row-53 : Row53 (row_text map magnets u)
  sample-row-53 =
      rw row-is
      (row-of (six sequence motor time speed voltage temperature)
      (all-filled sequence motor time speed voltage temperature sequence-filled (motor-filled (motor_on map u.output)) time-filled speed-filled
      voltage-filled temperature-filled))

pub whole : WholeRows
whole = whole-row

head-53 : (number : ℕ) → Row53 (head_text number)
unfolding head_text
head-53 number =
    let page = page-filled number in
    let title = codes "PAGE" in
    let shown = right 6 (decimal (number % 1_000_000)) in
    let front = All-append Plain title shown (All-from_recursion Plain title (refl, (refl, (refl, (refl, tt))))) page.plain in
    row-of (title ++ shown ++ blanks 43) record {
      long = simp length-append (omega (arith, page.long));
      plain = All-append Plain (title ++ shown) (blanks 43) front (All-replicate Plain 43 blank refl);
    }

blank-53 : Row53 blank_row
unfolding blank_row
blank-53 = row-of (blanks 53) (record { long = refl; plain = All-replicate Plain 53 blank refl })

pub row-53 : Rows53
row-53 = record { head = head-53; sample = sample-row-53; blank = blank-53 }
