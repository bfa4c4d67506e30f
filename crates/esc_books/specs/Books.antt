-- What only an opening, a delivered sample, a recovery and the kinds 0a, 0b, 0d and 0e touch: stored samples, at most one idle check, figures.
use Rattle.std.specs.Prelude.{ℕ, Option, Some, None, option_map}
use Rattle.esc_lanes.specs.Samples.{no_samples, stored_in, sample_at}
use Rattle.esc_idle.specs.Idle.{new_idle, observe_of, status_of}
use Rattle.esc_lanes.specs.declared.output.EscOutput.{EscOutput}
use Rattle.esc_lanes.specs.declared.request.EscTelemetryObservation.{EscTelemetryObservation}
use Rattle.esc_lanes.specs.declared.request.EscTelemetryUpdate.{EscTelemetryUpdate}
use Rattle.esc_lanes.specs.declared.samples.EscSamples.{EscSamples}
use Rattle.esc_idle.specs.declared.idle_config.EscIdleQualificationConfig.{EscIdleQualificationConfig}
use Rattle.esc_idle.specs.declared.idle.EscIdleQualification.{EscIdleQualification}
use Rattle.esc_idle.specs.declared.idle.EscIdleJudged.{EscIdleJudged}
use Rattle.esc_answers.specs.declared.answer.Figure.{Figure}
use Rattle.esc_books.specs.Figures.{no_figures, figure_at, figures_with}
use Rattle.esc_books.specs.declared.figures.Figures.{Figures}
use Rattle.esc_books.specs.declared.books.Books.{Books}
use Rattle.esc_books.specs.declared.books.Booked.{Booked}

abbrev pub books_of : EscSamples → Option EscIdleQualification → Figures → Books
books_of s i f = record { samples = s; idle = i; figures = f }

abbrev pub no_books : Books
no_books = books_of no_samples None no_figures

-- 0a replaces the check
abbrev pub checked_by : Books → EscIdleQualificationConfig → ℕ → Books
checked_by b c start = books_of b.samples (Some (new_idle c start)) b.figures

-- recovery drops stored samples; the check and the figures are kept
abbrev pub samples_dropped : Books → Books
samples_dropped b = books_of no_samples b.idle b.figures

abbrev pub books_judged : Books → EscIdleJudged → Booked
books_judged b j = record { books = books_of b.samples (Some j.idle) b.figures; status = Some j.status }

-- without a check there is no status
abbrev pub if_checking : Books → Option EscIdleJudged → Booked
if_checking b None = record { books = b; status = None }
if_checking b (Some j) = books_judged b j

-- a delivered sample is stored, counted in the figures and passed to `observe`
unfoldable pub booked_in : Books → EscTelemetryUpdate → ℕ → Booked
booked_in b u now =
    if_checking
    (books_of (stored_in b.samples u) b.idle (figures_with b.figures u))
    (option_map (λ (i : EscIdleQualification). observe_of i u now) b.idle)

-- 0b
unfoldable pub idle_status : Books → ℕ → Booked
idle_status b now = if_checking b (option_map (λ (i : EscIdleQualification). status_of i now) b.idle)

abbrev pub sample_of : EscOutput → Option EscTelemetryObservation → Option EscTelemetryUpdate
sample_of o x = option_map (λ (y : EscTelemetryObservation). record { output = o; observation = y }) x

-- 0e
abbrev pub lane_figure : Books → EscOutput → Figure
lane_figure b o = figure_at b.figures o

-- 0d
abbrev pub stored_at : Books → EscOutput → Option EscTelemetryUpdate
stored_at b o = sample_of o (sample_at b.samples o)
