-- The sheet of a flight: of the samples that the lines of a text of answers deliver (document 02, Q-2).
use Rattle.std.specs.Prelude.{◌≡◌, ℕ, List, [], ◌∷◌, ◌++◌, Option}
use Rattle.std.specs.List.{flat_map}
use Rattle.airframe.specs.declared.board_map.BoardMap.{BoardMap}
use Rattle.hex_lines.specs.Lines.{lines_from, lines_of}
use Rattle.lent_samples.specs.Samples.{samples_of}
use Rattle.sheet.specs.Sheet.{sheet_text}
use Rattle.answer_lines.specs.AnswerLine.{Reads, line_tells}
use Rattle.answer_lines.specs.declared.told.Told.{Told}
use Rattle.answer_lines.specs.declared.told.Told.TheVariants as told
use Rattle.flightsheet.specs.Pages.{Filed}
use Rattle.flightsheet.specs.declared.craft.Craft.{Craft}
use Rattle.flightsheet.specs.declared.flight.Flight.{Flight}

-- the sample that is told of, if there is one
abbrev pub sample_told : Told → List (List ℕ)
sample_told (told.Sample sample) = sample ∷ []
sample_told told.Other = []
sample_told told.NoAnswer = []

-- the samples that lines deliver, in their order
abbrev pub delivered_by : List (List ℕ) → List (List ℕ)
delivered_by lines = flat_map (λ line. sample_told (line_tells line)) lines

-- the sheet of a text of answers
unfoldable pub flight_sheet : BoardMap → ℕ → List ℕ → List ℕ
flight_sheet map magnets text = sheet_text map magnets (samples_of (delivered_by (lines_of text)))

-- what a flight has done with a text so far: the samples of its ended lines are filed, and the line that is not ended is read
pub record Flown (c : Craft) (f : Flight) (text : List ℕ) (at_first now : Option (List ℕ)) : Type 0 where
  pub taken : List (List ℕ)
  pub line : List ℕ
  pub passed : (rest : List ℕ) → delivered_by (lines_of (text ++ rest)) ≡ taken ++ delivered_by (lines_from line rest)
  pub reads : Reads f.reading line
  pub filed : Filed c f.pages taken at_first now
