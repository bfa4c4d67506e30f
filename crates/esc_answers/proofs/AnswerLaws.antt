-- How long answers are: each part by computation, and none longer than the report.
use Rattle.std.proofs.Common.{◌≡◌, ◌+◌, ◌≤◌, Bool, true, false, Option, Some, None, [], ◌∷◌, length, refl, arith, length-append, get_or, ℕ, List}
use Rattle.base.specs.BigEndian.{bytes_of}
use Rattle.blheli_telemetry.specs.Frame.{payload_of}
use Rattle.esc_lanes.specs.declared.request.EscActuatorRequest.{EscActuatorRequest}
use Rattle.esc_lanes.specs.declared.request.EscTelemetryUpdate.{EscTelemetryUpdate}
use Rattle.esc_feedback.specs.declared.answer.EscManagerTimeout.TheVariants as timeout
use Rattle.esc_idle.specs.declared.idle_verdict.EscIdleQualificationFailure.{EscIdleQualificationFailure}
use Rattle.esc_idle.specs.declared.idle_verdict.EscIdleQualificationFailure.TheVariants as failure
use Rattle.esc_idle.specs.declared.idle_verdict.EscIdleQualificationStatus.{EscIdleQualificationStatus}
use Rattle.esc_idle.specs.declared.idle_verdict.EscIdleQualificationStatus.TheVariants as idle
use Rattle.esc_answers.specs.Answer.{
  flag_byte,
  request_bytes,
  sample_bytes,
  failure_bytes,
  idle_bytes,
  delivered_bytes,
  next_bytes,
  ack_bytes,
  timeout_bytes,
  wire_bytes,
  back_bytes,
  report_bytes,
  stored_bytes,
  figure_bytes,
  body_bytes,
  answer_bytes,
  longest_answer,
}
use Rattle.esc_answers.specs.declared.answer.Figure.{Figure}
use Rattle.esc_answers.specs.declared.answer.Delivered.{Delivered}
use Rattle.esc_answers.specs.declared.answer.AckAnswer.TheVariants as ack
use Rattle.esc_answers.specs.declared.answer.UnitReport.{UnitReport}
use Rattle.esc_answers.specs.declared.answer.Answer.{Answer}
use Rattle.esc_answers.specs.declared.answer.Answer.TheVariants as answer

pub request-length : (q : EscActuatorRequest) → length (request_bytes q) ≡ 5
unfolding request_bytes bytes_of
request-length q = refl

pub sample-length : (u : EscTelemetryUpdate) → length (sample_bytes u) ≡ 22
unfolding sample_bytes payload_of bytes_of
sample-length u = refl

pub report-length : (r : UnitReport) → length (report_bytes r) ≡ 42
unfolding report_bytes bytes_of
report-length r = refl

pub figure-length : (f : Figure) → length (figure_bytes f) ≡ 7
unfolding figure_bytes bytes_of
figure-length f = refl

-- four counts are their entries
pub four_counts : (counts : List ℕ) → length counts ≡ 4
    → get_or counts 0 0 ∷ get_or counts 1 0 ∷ get_or counts 2 0 ∷ get_or counts 3 0 ∷ [] ≡ counts
four_counts [] e = absurd (omega arith)
four_counts (a ∷ []) e = absurd (omega arith)
four_counts (a ∷ b ∷ []) e = absurd (omega arith)
four_counts (a ∷ b ∷ c ∷ []) e = absurd (omega arith)
four_counts (a ∷ b ∷ c ∷ d ∷ []) e = refl
four_counts (a ∷ b ∷ c ∷ d ∷ f ∷ counts) e = absurd (omega arith)

-- 05 and four counts, whatever list they are told as
pub timeout-length : (counts : List ℕ) → length (failure_bytes (failure.Timeout counts)) ≡ 5
unfolding failure_bytes
timeout-length counts = refl

failure-at-most : (f : EscIdleQualificationFailure) → length (failure_bytes f) ≤ 5
unfolding failure_bytes bytes_of
failure-at-most failure.InvalidConfig = omega arith
failure-at-most (failure.Overspeed output erpm) = omega arith
failure-at-most (failure.Timeout counts) = omega arith

pub idle-at-most : (i : Option EscIdleQualificationStatus) → length (idle_bytes i) ≤ 5
unfolding idle_bytes
idle-at-most None = omega arith
idle-at-most (Some idle.Pending) = omega arith
idle-at-most (Some idle.Qualified) = omega arith
idle-at-most (Some (idle.Failed f)) = failure-at-most f

pub delivered-length : (d : Delivered) → length (delivered_bytes d) ≡ 23 + length (idle_bytes d.status)
unfolding delivered_bytes
delivered-length d = omega (arith, length-append (sample_bytes d.update) (idle_bytes d.status), sample-length d.update)

pub delivered-at-most : (d : Delivered) → length (delivered_bytes d) ≤ 28
delivered-at-most d = omega (arith, delivered-length d, idle-at-most d.status)

pub body-at-most : (a : Answer) → length (body_bytes a) ≤ 42
unfolding body_bytes next_bytes ack_bytes timeout_bytes wire_bytes back_bytes stored_bytes bytes_of
body-at-most answer.Done = omega arith
body-at-most (answer.Request None) = omega arith
body-at-most (answer.Request (Some q)) = omega (arith, request-length q)
body-at-most (answer.Decided b) = omega arith
body-at-most (answer.Ack ack.Rejected) = omega arith
body-at-most (answer.Ack ack.Accepted) = omega arith
body-at-most (answer.Ack (ack.Sample d)) = omega (arith, delivered-at-most d)
body-at-most (answer.Timeout None) = omega arith
body-at-most (answer.Timeout (Some (timeout.ActuatorAck q))) = omega (arith, request-length q)
body-at-most (answer.Timeout (Some (timeout.TelemetryResponse q))) = omega (arith, request-length q)
body-at-most (answer.Wire None) = omega arith
body-at-most (answer.Wire (Some d)) = omega (arith, delivered-at-most d)
body-at-most (answer.BackAfterRetries None) = omega arith
body-at-most (answer.BackAfterRetries (Some n)) = omega arith
body-at-most (answer.Idle i) = omega (arith, idle-at-most i)
body-at-most (answer.Report r) = omega (arith, report-length r)
body-at-most (answer.Stored None) = omega arith
body-at-most (answer.Stored (Some u)) = omega (arith, sample-length u)
body-at-most (answer.Figures f) = omega (arith, figure-length f)

-- 00 and its body
pub answer-length : (a : Answer) → length (answer_bytes a) ≡ 1 + length (body_bytes a)
unfolding answer_bytes
answer-length a = omega arith

pub answer-at-most : (a : Answer) → length (answer_bytes a) ≤ longest_answer
answer-at-most a = omega (arith, answer-length a, body-at-most a)

-- the answers that 02, 03 and 05 give in two bytes, and a delivered sample, which 03 and 05 show alike
pub decided-bytes : (b : Bool) → answer_bytes (answer.Decided b) ≡ 0x00 ∷ flag_byte b ∷ []
unfolding answer_bytes body_bytes
decided-bytes b = refl

pub rejected-bytes : answer_bytes (answer.Ack ack.Rejected) ≡ 0x00 ∷ flag_byte false ∷ []
unfolding answer_bytes body_bytes ack_bytes
rejected-bytes = refl

pub accepted-bytes : answer_bytes (answer.Ack ack.Accepted) ≡ 0x00 ∷ flag_byte true ∷ []
unfolding answer_bytes body_bytes ack_bytes
accepted-bytes = refl

pub no-wire-bytes : answer_bytes (answer.Wire None) ≡ 0x00 ∷ flag_byte false ∷ []
unfolding answer_bytes body_bytes wire_bytes
no-wire-bytes = refl
