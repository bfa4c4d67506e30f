-- Figures per lane (document 01): samples delivered (saturating), largest temperature byte, lowest voltage; all 0 before the first.
use Rattle.std.specs.Prelude.{min, max, eqb, get_or, set, replicate}
use Rattle.base.specs.Choice.{pick}
use Rattle.base.specs.Saturated.{saturated}
use Rattle.blheli_telemetry.specs.declared.frame.EscTelemetry.{EscTelemetry}
use Rattle.esc_lanes.specs.Output.{lane_of}
use Rattle.esc_lanes.specs.declared.output.EscOutput.{EscOutput}
use Rattle.esc_lanes.specs.declared.request.EscTelemetryUpdate.{EscTelemetryUpdate}
use Rattle.esc_answers.specs.declared.answer.Figure.{Figure}
use Rattle.esc_books.specs.declared.figures.Figures.{Figures}

abbrev pub no_figure : Figure
no_figure = record { samples = 0; hottest_c = 0; lowest_cv = 0 }

unfoldable pub with_sample : Figure → EscTelemetry → Figure
with_sample f t =
    pick (eqb f.samples 0)
    (record { samples = 1; hottest_c = t.temperature_c; lowest_cv = t.voltage_cv })
    (record {
      samples = saturated f.samples;
      hottest_c = max f.hottest_c t.temperature_c;
      lowest_cv = min f.lowest_cv t.voltage_cv;
    })

abbrev pub no_figures : Figures
no_figures = record { lanes = replicate 4 no_figure }

abbrev pub figure_at : Figures → EscOutput → Figure
figure_at f o = get_or f.lanes (lane_of o) no_figure

abbrev pub figures_with : Figures → EscTelemetryUpdate → Figures
figures_with f u =
    record { lanes = set f.lanes (lane_of u.output) (with_sample (figure_at f u.output) u.observation.sample) }
