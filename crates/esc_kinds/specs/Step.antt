-- What each record does to the manager and the books, and its answer (document 01, 'Records').
use Rattle.std.specs.Prelude.{ℕ, Bool, true, false, not, eqb, Option, Some, None}
use Rattle.esc_feedback.specs.Manager.{new_manager, is_faulted, take_back, manager_stats}
use Rattle.esc_feedback.specs.Queueing.{next_request, mark_queued}
use Rattle.esc_feedback.specs.Ack.{on_ack}
use Rattle.esc_feedback.specs.Timeout.{poll_timeout}
use Rattle.esc_feedback.specs.Wire.{push_wire, cut_wire, refreshed}
use Rattle.esc_feedback.specs.Recovery.{try_recover}
use Rattle.esc_lanes.specs.declared.request.EscTelemetryUpdate.{EscTelemetryUpdate}
use Rattle.esc_feedback.specs.declared.answer.EscAckOutcome.{EscAckOutcome}
use Rattle.esc_feedback.specs.declared.answer.EscAckOutcome.TheVariants as outcome
use Rattle.esc_feedback.specs.declared.config.EscManagerConfig.{EscManagerConfig}
use Rattle.esc_feedback.specs.declared.manager.EscManager.{EscManager}
use Rattle.esc_books.specs.Books.{no_books, checked_by, samples_dropped, booked_in, idle_status, stored_at, lane_figure}
use Rattle.esc_records.specs.declared.record.Record.{Record}
use Rattle.esc_records.specs.declared.record.Record.TheVariants as kind
use Rattle.esc_answers.specs.declared.answer.AckAnswer.TheVariants as ack
use Rattle.esc_answers.specs.declared.answer.UnitReport.{UnitReport}
use Rattle.esc_answers.specs.declared.answer.Answer.{Answer}
use Rattle.esc_answers.specs.declared.answer.Answer.TheVariants as answer
use Rattle.esc_books.specs.declared.books.Books.{Books}
use Rattle.esc_books.specs.declared.books.Booked.{Booked}
use Rattle.esc_kinds.specs.declared.opened.Opened.{Opened}
use Rattle.esc_kinds.specs.declared.opened.Stepped.{Stepped}

abbrev pub opened_with : EscManager → Books → Opened
opened_with m b = record { manager = m; books = b }

abbrev pub stepped : EscManager → Books → Answer → Stepped
stepped m b a = record { opened = opened_with m b; answer = a }

-- 00 starts everything anew
abbrev pub opening : EscManagerConfig → ℕ → Stepped
opening c t = stepped (new_manager c t) no_books answer.Done

-- a delivered sample goes to the books, with now the T of 05 or the second T of 03
abbrev booked_step : (EscTelemetryUpdate → Booked → Answer) → EscManager → Books → EscTelemetryUpdate → ℕ → Stepped
booked_step says m b u now = stepped m (booked_in b u now).books (says u (booked_in b u now))

abbrev ack_sample : EscTelemetryUpdate → Booked → Answer
ack_sample u k = answer.Ack (ack.Sample (record { update = u; status = k.status }))

abbrev wire_sample : EscTelemetryUpdate → Booked → Answer
wire_sample u k = answer.Wire (Some (record { update = u; status = k.status }))

abbrev pub acked_on : EscManager → Books → ℕ → EscAckOutcome → Stepped
acked_on m b now outcome.Rejected = stepped m b (answer.Ack ack.Rejected)
acked_on m b now outcome.Accepted = stepped m b (answer.Ack ack.Accepted)
acked_on m b now (outcome.Sample u) = booked_step ack_sample m b u now

abbrev pub wire_stepped : EscManager → Books → ℕ → Option EscTelemetryUpdate → Stepped
wire_stepped m b now None = stepped m b (answer.Wire None)
wire_stepped m b now (Some u) = booked_step wire_sample m b u now

abbrev pub recovered_on : EscManager → Books → Bool → Stepped
recovered_on m b true = stepped m (samples_dropped b) (answer.Decided true)
recovered_on m b false = stepped m b (answer.Decided false)

abbrev pub report_of : EscManager → UnitReport
report_of m = record { faulted = is_faulted m; retrying = not (eqb m.fault.retries_without_frame 0); stats = manager_stats m }

-- what each kind of record does, 00 to 0e
unfoldable pub step_of : EscManager → Books → Record → Stepped
step_of m b (kind.Open c t) = opening c t
step_of m b (kind.NextRequest now) = stepped m b (answer.Request (next_request m now))
step_of m b (kind.MarkRequestQueued q now) = stepped (mark_queued m q now).manager b (answer.Decided (mark_queued m q now).answer)
step_of m b (kind.ActuatorAck k now) = acked_on (on_ack m k).manager b now (on_ack m k).answer
step_of m b (kind.PollTimeout now) = stepped (poll_timeout m now).manager b (answer.Timeout (poll_timeout m now).answer)
step_of m b (kind.WireByte x now) = wire_stepped (push_wire m x now).manager b now (push_wire m x now).answer
step_of m b kind.WireDiscontinuity = stepped (cut_wire m) b answer.Done
step_of m b (kind.TryRecover armed now) = recovered_on (try_recover m now armed).manager b (try_recover m now armed).answer
step_of m b kind.TakeBackAfterRetries = stepped (take_back m).manager b (answer.BackAfterRetries (take_back m).answer)
step_of m b kind.RefreshWireStats = stepped (refreshed m) b answer.Done
step_of m b (kind.IdleCheck c t) = stepped m (checked_by b c t) answer.Done
step_of m b (kind.IdleStatus now) = stepped m (idle_status b now).books (answer.Idle (idle_status b now).status)
step_of m b kind.Report = stepped m b (answer.Report (report_of m))
step_of m b (kind.StoredSample o) = stepped m b (answer.Stored (stored_at b o))
step_of m b (kind.Figures o) = stepped m b (answer.Figures (lane_figure b o))
