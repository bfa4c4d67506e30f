-- Stored samples and figures (document 01): of the samples delivered since the opening.
use Rattle.std.specs.Prelude.{ℕ, ◌-◌, ◌^◌, min, max, not, List, [], ◌∷◌, eqb, length}
use Rattle.std.specs.Prelude.{Option, None, Some}
use Rattle.base.specs.Choice.{pick}
use Rattle.esc_lanes.specs.Output.{lane_of, lane_number}
use Rattle.esc_lanes.specs.declared.output.Lane.{Lane}
use Rattle.esc_lanes.specs.declared.request.EscTelemetryUpdate.{EscTelemetryUpdate}
use Rattle.esc_answers.specs.declared.answer.Figure.{Figure}
use Rattle.base.specs.Maybe.{only_if}
use Rattle.booking.specs.History.{Past}

abbrev newest : Option EscTelemetryUpdate → Lane → Option EscTelemetryUpdate → Option EscTelemetryUpdate
newest None l old = old
newest (Some u) l old = pick (eqb (lane_of u.output) (lane_number l)) (Some u) old

-- a lane's newest delivered sample; recovery drops stored samples
unfoldable pub stored : Past → Lane → Option EscTelemetryUpdate
stored [] l = None
stored (e ∷ h) l = only_if (not e.requests.recovered) (newest e.requests.delivered l (stored h l))

abbrev pub added : Option EscTelemetryUpdate → Lane → List EscTelemetryUpdate → List EscTelemetryUpdate
added None l us = us
added (Some u) l us = pick (eqb (lane_of u.output) (lane_number l)) (u ∷ us) us

-- a lane's delivered samples, newest first; figures are kept over recovery
unfoldable pub delivered_on : Past → Lane → List EscTelemetryUpdate
delivered_on [] l = []
delivered_on (e ∷ h) l = added e.requests.delivered l (delivered_on h l)

-- the largest temperature byte
unfoldable pub hottest : List EscTelemetryUpdate → ℕ
hottest [] = 0
hottest (u ∷ us) = max (hottest us) u.observation.sample.temperature_c

-- the lowest voltage
unfoldable pub lowest : List EscTelemetryUpdate → ℕ
lowest [] = 0
lowest (u ∷ []) = u.observation.sample.voltage_cv
lowest (u ∷ v ∷ us) = min (lowest (v ∷ us)) u.observation.sample.voltage_cv

unfoldable pub figure_of : List EscTelemetryUpdate → Figure
figure_of us = record { samples = min (length us) (2 ^ 32 - 1); hottest_c = hottest us; lowest_cv = lowest us }
