-- The rule: the reply to every call, from its record, the room lent and what was fed and answered before. No unit is in it.
use Rattle.std.specs.Prelude.{ℕ, List, [], ◌∷◌, leb, length}
use Rattle.std.specs.Prelude.{Option, None, Some}
use Rattle.base.specs.Choice.{pick}
use Rattle.base.specs.Reply.{Reply, accepted, refused}
use Rattle.esc_lanes.specs.declared.request.EscActuatorRequest.{EscActuatorRequest}
use Rattle.esc_lanes.specs.declared.request.EscTelemetryUpdate.{EscTelemetryUpdate}
use Rattle.esc_records.specs.Record.{read_record}
use Rattle.esc_answers.specs.Answer.{answer_bytes}
use Rattle.esc_records.specs.declared.record.Record.{Record}
use Rattle.esc_records.specs.declared.record.Record.TheVariants as kind
use Rattle.esc_idle.specs.declared.idle_verdict.EscIdleQualificationStatus.{EscIdleQualificationStatus}
use Rattle.esc_answers.specs.declared.answer.Delivered.{Delivered}
use Rattle.esc_answers.specs.declared.answer.AckAnswer.{AckAnswer}
use Rattle.esc_answers.specs.declared.answer.AckAnswer.TheVariants as ack
use Rattle.esc_answers.specs.declared.answer.Answer.{Answer}
use Rattle.esc_answers.specs.declared.answer.Answer.TheVariants as answer
use Rattle.booking.specs.History.{Opening, Past, Since, since, Call, History}
use Rattle.booking.specs.Wire.{Frame, wire, frame_at, timed}
use Rattle.booking.specs.Booking.{booked, booked_to, newly_started, started_request, latest_frame}
use Rattle.booking.specs.Turns.{existing, names}
use Rattle.booking.specs.Faults.{timeout_for, recovers, note}
use Rattle.booking.specs.IdleRule.{judged}
use Rattle.booking.specs.Samples.{stored, delivered_on, figure_of}
use Rattle.booking.specs.Counts.{report_for}

-- a 03 delivers exactly when it equals the open request, is the first such, and a frame end came since its 02; the first such with
-- no frame end is accepted, any other rejected
abbrev pub ack_answer : Option EscActuatorRequest → Option Frame → (EscTelemetryUpdate → Option EscIdleQualificationStatus) → AckAnswer
ack_answer None f says = ack.Rejected
ack_answer (Some q) None says = ack.Accepted
ack_answer (Some q) (Some f) says = ack.Sample (record { update = booked q f; status = says (booked q f) })

abbrev pub wire_answer_of : Option EscTelemetryUpdate → (EscTelemetryUpdate → Option EscIdleQualificationStatus) → Option Delivered
wire_answer_of None says = None
wire_answer_of (Some u) says = Some (record { update = u; status = says u })

-- the answer to each kind of record, after an opening
abbrev pub answer_to : Opening → Past → Record → Answer
answer_to o h (kind.Open c t) = answer.Done
answer_to o h (kind.NextRequest now) = answer.Request (existing o h now)
answer_to o h (kind.MarkRequestQueued q now) = answer.Decided (names (existing o h now) q)
answer_to o h (kind.ActuatorAck k now) = answer.Ack (ack_answer (newly_started h k.request) (latest_frame h) (λ u. judged h (Some u) now))
answer_to o h (kind.PollTimeout now) = answer.Timeout (timeout_for o h now)
answer_to o h (kind.WireByte b now) = answer.Wire (wire_answer_of (booked_to (started_request h) (timed (frame_at (wire h) b) now))
    (λ u. judged h (Some u) now))
answer_to o h kind.WireDiscontinuity = answer.Done
answer_to o h (kind.TryRecover armed now) = answer.Decided (recovers o h armed now)
answer_to o h kind.TakeBackAfterRetries = answer.BackAfterRetries (note h)
answer_to o h kind.RefreshWireStats = answer.Done
answer_to o h (kind.IdleCheck c t) = answer.Done
answer_to o h (kind.IdleStatus now) = answer.Idle (judged h None now)
answer_to o h kind.Report = answer.Report (report_for h)
answer_to o h (kind.StoredSample l) = answer.Stored (stored h l.0)
answer_to o h (kind.Figures l) = answer.Figures (figure_of (delivered_on h l.0))

-- 8: any kind but 00 before the first accepted 00
abbrev pub unopened : Record → Reply Answer
unopened (kind.Open c t) = accepted answer.Done
unopened (kind.NextRequest now) = refused 8
unopened (kind.MarkRequestQueued q now) = refused 8
unopened (kind.ActuatorAck k now) = refused 8
unopened (kind.PollTimeout now) = refused 8
unopened (kind.WireByte b now) = refused 8
unopened kind.WireDiscontinuity = refused 8
unopened (kind.TryRecover armed now) = refused 8
unopened kind.TakeBackAfterRetries = refused 8
unopened kind.RefreshWireStats = refused 8
unopened (kind.IdleCheck c t) = refused 8
unopened (kind.IdleStatus now) = refused 8
unopened kind.Report = refused 8
unopened (kind.StoredSample l) = refused 8
unopened (kind.Figures l) = refused 8

abbrev pub reply_to : Option Since → Record → Reply Answer
reply_to None r = unopened r
reply_to (Some s) r = accepted (answer_to s.opening s.past r)

-- 9: lent output shorter than what is written
abbrev pub with_room : ℕ → Reply Answer → Reply Answer
with_room room (refused n) = refused n
with_room room (accepted a) = pick (leb (length (answer_bytes a)) room) (accepted a) (refused 9)

-- 4 to 7 stand in reading the record
abbrev pub reply_on : ℕ → Option Since → Reply Record → Reply Answer
reply_on room s (refused n) = refused n
reply_on room s (accepted r) = with_room room (reply_to s r)

unfoldable pub rule_for : History → Call → Reply Answer
rule_for h c = reply_on c.room (since h) (read_record c.bytes)

-- what a whole list of calls comes to, by the rule alone
unfoldable pub trace_of : History → List Call → History
trace_of h [] = h
trace_of h (c ∷ cs) = trace_of (record { call = c; reply = rule_for h c } ∷ h) cs
