-- What holds of the sheet of every list of answers. In proofs/, `flight-of-answers` says that it does.
use Rattle.std.specs.Prelude.{◌≡◌, ℕ, true, All, Option, Some, None, List, [], ◌∷◌}
use Rattle.std.specs.List.{flat_map}
use Rattle.base.specs.Reply.{Reply, accepted, refused}
use Rattle.base.specs.Bytes.{are_bytes}
use Rattle.esc_lanes.specs.declared.request.EscTelemetryUpdate.{EscTelemetryUpdate}
use Rattle.airframe.specs.declared.board_map.BoardMap.{BoardMap}
use Rattle.hex_lines.specs.Line.{printed_line}
use Rattle.esc_answers.specs.Answer.{reply_bytes}
use Rattle.esc_answers.specs.declared.answer.Delivered.{Delivered}
use Rattle.esc_answers.specs.declared.answer.Answer.{Answer}
use Rattle.lent_samples.specs.SamplesBack.{SampleRanged}
use Rattle.sheet.specs.Sheet.{sheet_text}
use Rattle.answer_lines.specs.Claims.{delivered_in, Printable}
use Rattle.flightsheet.specs.Flight.{flight_sheet}

-- the text that answers and refusals are printed as, a line each
abbrev pub replies_text : List (Reply Answer) → List ℕ
replies_text rs = flat_map (λ r. printed_line (reply_bytes r)) rs

-- the sample of a delivery, if there is one
abbrev pub updates_with : Option Delivered → List EscTelemetryUpdate
updates_with None = []
updates_with (Some d) = d.update ∷ []

-- the sample that an answer delivers, to 03 or to 05; a refusal delivers none
abbrev pub updates_in : Reply Answer → List EscTelemetryUpdate
updates_in (accepted a) = updates_with (delivered_in a)
updates_in (refused n) = []

-- the samples that answers deliver, in their order
abbrev pub updates_of : List (Reply Answer) → List EscTelemetryUpdate
updates_of rs = flat_map updates_in rs

-- what the types in the code make sure of: an answer, or a refusal that has a number in document 01; its numbers are bytes; and the fields of
-- the sample that it delivers have the values of their types
pub record Sayable (r : Reply Answer) : Type 0 where
  pub printable : Printable r
  pub bytes : are_bytes (reply_bytes r) ≡ true
  pub ranged : All SampleRanged (updates_in r)

-- the sheet of the text that answers are printed as is the sheet of the samples that they deliver, in their order, and of no others
abbrev pub FlightOfAnswers : Type 0
FlightOfAnswers =
    (map : BoardMap) (magnets : ℕ) (rs : List (Reply Answer)) → All Sayable rs
    → flight_sheet map magnets (replies_text rs) ≡ sheet_text map magnets (updates_of rs)
