-- Only a 0c is answered with a report, and the rule's report has these counts.
use mathlib.Core.Path.{◌≡◌, refl, sym, ◌∙◌, ap, subst}
use Rattle.std.specs.Prelude.{Option, None, Some}
use mathlib.Core.Bool.{Bool, true, false, false≢true}
use Rattle.base.specs.Reply.{Reply, accepted, refused}
use Rattle.esc_records.specs.Record.{read_record}
use Rattle.esc_records.specs.declared.record.Record.{Record}
use Rattle.esc_records.specs.declared.record.Record.TheVariants as kind
use Rattle.esc_answers.specs.declared.answer.UnitReport.{UnitReport}
use Rattle.esc_answers.specs.declared.answer.Answer.{Answer}
use Rattle.esc_answers.specs.declared.answer.Answer.TheVariants as answer
use Rattle.booking.specs.History.{Opening, Past, Since, since}
use Rattle.booking.specs.Counts.{report_for}
use Rattle.booking.specs.Rule.{answer_to, reply_to}
use Rattle.booking.specs.Run.{run}
use Rattle.booking.specs.Claims.{past_of, Reported, ReportCounts}
use Rattle.booking.proofs.Accepted.{refused-accepted, accepted-is, accepted-by-rule, refused-reply}

reported : (h : Past) → Reported h (report_for h)
unfolding report_for
reported h = record { queues = refl; starts = refl; ack_timeouts = refl; response_timeouts = refl; mismatches = refl; recoveries = refl }

abbrev is_report : Answer → Bool
is_report answer.Done = false
is_report (answer.Request q) = false
is_report (answer.Decided b) = false
is_report (answer.Ack a) = false
is_report (answer.Timeout t) = false
is_report (answer.Wire w) = false
is_report (answer.BackAfterRetries n) = false
is_report (answer.Idle i) = false
is_report (answer.Report r) = true
is_report (answer.Stored s) = false
is_report (answer.Figures f) = false

other : {P : Type 0} (a : Answer) (r : UnitReport) → is_report a ≡ false → a ≡ answer.Report r → P
other a r f e = absurd (false≢true (sym f ∙ ap is_report e))

report-is : (a b : UnitReport) → answer.Report a ≡ answer.Report b → a ≡ b
report-is a b e = cc

by_answer : (o : Opening) (h : Past) (k : Record) (r : UnitReport) → answer_to o h k ≡ answer.Report r → Reported h r
by_answer o h (kind.Open c t) r e = other _ r refl e
by_answer o h (kind.NextRequest now) r e = other _ r refl e
by_answer o h (kind.MarkRequestQueued q now) r e = other _ r refl e
by_answer o h (kind.ActuatorAck a now) r e = other _ r refl e
by_answer o h (kind.PollTimeout now) r e = other _ r refl e
by_answer o h (kind.WireByte x now) r e = other _ r refl e
by_answer o h kind.WireDiscontinuity r e = other _ r refl e
by_answer o h (kind.TryRecover armed now) r e = other _ r refl e
by_answer o h kind.TakeBackAfterRetries r e = other _ r refl e
by_answer o h kind.RefreshWireStats r e = other _ r refl e
by_answer o h (kind.IdleCheck c t) r e = other _ r refl e
by_answer o h (kind.IdleStatus now) r e = other _ r refl e
by_answer o h kind.Report r e = subst (Reported h) (report-is (report_for h) r e) (reported h)
by_answer o h (kind.StoredSample l) r e = other _ r refl e
by_answer o h (kind.Figures l) r e = other _ r refl e

by-reply : (s : Option Since) (k : Record) (r : UnitReport) → reply_to s k ≡ accepted (answer.Report r) → Reported (past_of s) r
by-reply None (kind.Open c t) r e = other answer.Done r refl (accepted-is _ _ e)
by-reply None (kind.NextRequest now) r e = absurd (refused-accepted 8 (answer.Report r) e)
by-reply None (kind.MarkRequestQueued q now) r e = absurd (refused-accepted 8 (answer.Report r) e)
by-reply None (kind.ActuatorAck a now) r e = absurd (refused-accepted 8 (answer.Report r) e)
by-reply None (kind.PollTimeout now) r e = absurd (refused-accepted 8 (answer.Report r) e)
by-reply None (kind.WireByte x now) r e = absurd (refused-accepted 8 (answer.Report r) e)
by-reply None kind.WireDiscontinuity r e = absurd (refused-accepted 8 (answer.Report r) e)
by-reply None (kind.TryRecover armed now) r e = absurd (refused-accepted 8 (answer.Report r) e)
by-reply None kind.TakeBackAfterRetries r e = absurd (refused-accepted 8 (answer.Report r) e)
by-reply None kind.RefreshWireStats r e = absurd (refused-accepted 8 (answer.Report r) e)
by-reply None (kind.IdleCheck c t) r e = absurd (refused-accepted 8 (answer.Report r) e)
by-reply None (kind.IdleStatus now) r e = absurd (refused-accepted 8 (answer.Report r) e)
by-reply None kind.Report r e = absurd (refused-accepted 8 (answer.Report r) e)
by-reply None (kind.StoredSample l) r e = absurd (refused-accepted 8 (answer.Report r) e)
by-reply None (kind.Figures l) r e = absurd (refused-accepted 8 (answer.Report r) e)
by-reply (Some s) k r e = by_answer s.opening s.past k r (accepted-is _ _ e)

pub report-counts : ReportCounts
report-counts cs c r e = go (read_record c.bytes) refl
  where
    go : (x : Reply Record) → read_record c.bytes ≡ x → Reported (past_of (since (run cs).history)) r
    go (refused n) read = absurd (refused-accepted n (answer.Report r) (refused-reply cs c n read ∙ e))
    go (accepted k) read = by-reply (since (run cs).history) k r (accepted-by-rule cs c k (answer.Report r) read e)
