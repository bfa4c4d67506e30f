-- Rows, pages and sheets typed out, of values that are all distinct where one could stand for another: by computation.
use Rattle.std.proofs.Common.{◌≡◌, ℕ, ◌+◌, List, [], ◌∷◌, ◌++◌, codes, flat_map, replicate, refl}
use Rattle.std.specs.Fmt.{digits}
use Rattle.esc_lanes.specs.declared.output.Lane.{Lane}
use Rattle.esc_lanes.specs.declared.output.Lane.TheVariants.{Output1, Output2, Output3, Output4}
use Rattle.esc_lanes.specs.declared.request.EscTelemetryUpdate.{EscTelemetryUpdate}
use Rattle.airframe.specs.Motor.{motor_of}
use Rattle.airframe.specs.BoardMap.{map_of}
use Rattle.airframe.specs.declared.board_map.BoardMap.{BoardMap}
use Rattle.sheet.specs.Field.{right, volts}
use Rattle.sheet.specs.Row.{head_text, row_text, blank_row}
use Rattle.sheet.specs.Page.{page_text}
use Rattle.sheet.specs.Sheet.{pages_for, sheet_text}

-- a sample of a lane; its current and its consumption are on no row
abbrev sample : Lane → ℕ → ℕ → ℕ → ℕ → ℕ → EscTelemetryUpdate
sample lane sequence time temperature cv erpm =
    record {
      output = record { 0 = lane };
      observation =
          record {
            sample = record { temperature_c = temperature; voltage_cv = cv; current_ca = 4321; consumption_mah = 8765; erpm_div100 = erpm };
            observed_at_ms = time;
            request_sequence = sequence;
          };
    }

abbrev largest : EscTelemetryUpdate
largest = sample Output4 4_294_967_295 18_446_744_073_709_551_615 255 65_535 65_535

abbrev smallest : EscTelemetryUpdate
smallest = sample Output1 0 0 0 0 0

-- of a lane, by its number; 14 magnets make 1000 turns of eRPM 70
abbrev flown : Lane → ℕ → EscTelemetryUpdate
flown lane number = sample lane (11 + number) (2_222_222_222 + number) 33 1_642 70

-- board maps: on `crossed` no lane has the motor that is one more than it, nor the one that a map read the other way round would have
abbrev in_order : BoardMap
in_order = map_of (1 ∷ 2 ∷ 3 ∷ 4 ∷ [])

abbrev crossed : BoardMap
crossed = map_of (4 ∷ 3 ∷ 1 ∷ 2 ∷ [])

abbrev other : BoardMap
other = map_of (4 ∷ 2 ∷ 1 ∷ 3 ∷ [])

-- a text so many times
abbrev times : ℕ → List ℕ → List ℕ
times n text = flat_map (λ t. t) (replicate n text)

abbrev largest_row : List ℕ
largest_row = codes "4294967295 4 18446744073709551615 6553500 655.35  255\n"

abbrev smallest_row : List ℕ
smallest_row = codes "         0 1                    0       0   0.00    0\n"

abbrev blank_line : List ℕ
blank_line = codes "                                                     \n"

abbrev last_page : List ℕ
last_page = codes "PAGE999999                                           \n"

abbrev first_page : List ℕ
first_page = codes "PAGE     1                                           \n"

pub record FieldCases : Type 0 where
  pub cv-5 : right 6 (volts 5) ≡ codes "  0.05"
  pub cv-1642 : right 6 (volts 1642) ≡ codes " 16.42"
  pub cv-65535 : right 6 (volts 65_535) ≡ codes "655.35"

pub field-cases : FieldCases
unfolding right volts digits
field-cases = record { cv-5 = refl; cv-1642 = refl; cv-65535 = refl }

pub record RowCases : Type 0 where
  -- every field at its largest, and at its smallest
  pub most : row_text in_order 2 largest ≡ largest_row
  pub least : row_text in_order 2 smallest ≡ smallest_row
  -- the motor is the one that the map has on the lane
  pub crossed-0 : row_text crossed 14 (flown Output1 0) ≡ codes "        11 4           2222222222    1000  16.42   33\n"
  pub crossed-1 : row_text crossed 14 (flown Output2 1) ≡ codes "        12 3           2222222223    1000  16.42   33\n"
  pub crossed-2 : row_text crossed 14 (flown Output3 2) ≡ codes "        13 1           2222222224    1000  16.42   33\n"
  pub crossed-3 : row_text crossed 14 (flown Output4 3) ≡ codes "        14 2           2222222225    1000  16.42   33\n"
  pub other-0 : row_text other 14 (flown Output1 0) ≡ codes "        11 4           2222222222    1000  16.42   33\n"
  pub other-1 : row_text other 14 (flown Output2 1) ≡ codes "        12 2           2222222223    1000  16.42   33\n"
  pub other-2 : row_text other 14 (flown Output3 2) ≡ codes "        13 1           2222222224    1000  16.42   33\n"
  pub other-3 : row_text other 14 (flown Output4 3) ≡ codes "        14 3           2222222225    1000  16.42   33\n"
  -- 'the page number from 1 modulo 1,000,000'
  pub page-1 : head_text 1 ≡ first_page
  pub page-999999 : head_text 999_999 ≡ last_page
  pub page-1000000 : head_text 1_000_000 ≡ codes "PAGE     0                                           \n"
  pub page-1000001 : head_text 1_000_001 ≡ first_page
  pub none : blank_row ≡ blank_line

pub row-cases : RowCases
unfolding right volts digits motor_of map_of head_text row_text blank_row
row-cases = record {
  most = refl;
  least = refl;
  crossed-0 = refl;
  crossed-1 = refl;
  crossed-2 = refl;
  crossed-3 = refl;
  other-0 = refl;
  other-1 = refl;
  other-2 = refl;
  other-3 = refl;
  page-1 = refl;
  page-999999 = refl;
  page-1000000 = refl;
  page-1000001 = refl;
  none = refl;
}

pub record PageCases : Type 0 where
  -- 40 rows with every field at its largest; a 41st sample is not on the page
  pub full : page_text 999_999 in_order 2 (replicate 40 largest) ≡ last_page ++ times 40 largest_row
  pub more : page_text 999_999 in_order 2 (replicate 40 largest ++ smallest ∷ []) ≡ last_page ++ times 40 largest_row
  -- in the list's order, and blank rows below
  pub one : page_text 1 in_order 2 (largest ∷ []) ≡ first_page ++ largest_row ++ times 39 blank_line
  pub two : page_text 1 in_order 2 (largest ∷ smallest ∷ []) ≡ first_page ++ largest_row ++ smallest_row ++ times 38 blank_line
  -- no samples are one page, and the 41st is on the second
  pub none : sheet_text in_order 2 [] ≡ first_page ++ times 40 blank_line
  pub next :
      sheet_text in_order 2 (replicate 40 largest ++ smallest ∷ [])
      ≡ first_page ++ times 40 largest_row ++ codes "PAGE     2                                           \n" ++ smallest_row ++ times 39 blank_line

pub page-cases : PageCases
unfolding right volts digits motor_of map_of head_text row_text blank_row page_text pages_for sheet_text
page-cases = record { full = refl; more = refl; one = refl; two = refl; none = refl; next = refl }
