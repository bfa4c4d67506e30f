-- The bytes of an answer (document 01, 'Records'): an accepted answer starts with 00, and a refusal is its number alone.
use Rattle.std.specs.Prelude.{ℕ, Bool, true, false, Option, Some, None, List, [], ◌∷◌, ◌++◌, get_or}
use Rattle.base.specs.Reply.{Reply, accepted, refused}
use Rattle.base.specs.BigEndian.{bytes_of}
use Rattle.blheli_telemetry.specs.Frame.{payload_of}
use Rattle.blheli_telemetry.specs.declared.parser.ParserStats.{ParserStats}
use Rattle.esc_lanes.specs.Output.{lane_of}
use Rattle.esc_lanes.specs.declared.request.EscActuatorRequest.{EscActuatorRequest}
use Rattle.esc_lanes.specs.declared.request.EscTelemetryUpdate.{EscTelemetryUpdate}
use Rattle.esc_feedback.specs.declared.stats.EscManagerStats.{EscManagerStats}
use Rattle.esc_feedback.specs.declared.answer.EscManagerTimeout.{EscManagerTimeout}
use Rattle.esc_feedback.specs.declared.answer.EscManagerTimeout.TheVariants as timeout
use Rattle.esc_idle.specs.declared.idle_verdict.EscIdleQualificationFailure.{EscIdleQualificationFailure}
use Rattle.esc_idle.specs.declared.idle_verdict.EscIdleQualificationFailure.TheVariants as failure
use Rattle.esc_idle.specs.declared.idle_verdict.EscIdleQualificationStatus.{EscIdleQualificationStatus}
use Rattle.esc_idle.specs.declared.idle_verdict.EscIdleQualificationStatus.TheVariants as idle
use Rattle.esc_answers.specs.declared.answer.Figure.{Figure}
use Rattle.esc_answers.specs.declared.answer.Delivered.{Delivered}
use Rattle.esc_answers.specs.declared.answer.AckAnswer.{AckAnswer}
use Rattle.esc_answers.specs.declared.answer.AckAnswer.TheVariants as ack
use Rattle.esc_answers.specs.declared.answer.UnitReport.{UnitReport}
use Rattle.esc_answers.specs.declared.answer.Answer.{Answer}
use Rattle.esc_answers.specs.declared.answer.Answer.TheVariants as answer

-- 00 no or 01 yes
abbrev pub flag_byte : Bool → ℕ
flag_byte true = 0x01
flag_byte false = 0x00

-- 00 none, or 01 and what there is
abbrev pub optional_bytes : {A : Type 0} → (A → List ℕ) → Option A → List ℕ
optional_bytes bytes None = 0x00 ∷ []
optional_bytes bytes (Some a) = 0x01 ∷ bytes a

-- S L
unfoldable pub request_bytes : EscActuatorRequest → List ℕ
request_bytes q = bytes_of 4 q.sequence ++ lane_of q.output ∷ []

-- a sample is L, S, observed T and nine payload bytes
unfoldable pub sample_bytes : EscTelemetryUpdate → List ℕ
sample_bytes u =
    (lane_of u.output ∷ [])
    ++ (bytes_of 4 u.observation.request_sequence
    ++ (bytes_of 8 u.observation.observed_at_ms ++ payload_of u.observation.sample))

-- 03 invalid settings, 04 overspeed with L and eRPM (2), 05 timeout with four counts (1 each)
unfoldable pub failure_bytes : EscIdleQualificationFailure → List ℕ
failure_bytes failure.InvalidConfig = 0x03 ∷ []
failure_bytes (failure.Overspeed output erpm) = 0x04 ∷ lane_of output ∷ bytes_of 2 erpm
failure_bytes (failure.Timeout counts) = 0x05 ∷ get_or counts 0 0 ∷ get_or counts 1 0 ∷ get_or counts 2 0 ∷ get_or counts 3 0 ∷ []

-- 00 no check, 01 pending, 02 qualified
unfoldable pub idle_bytes : Option EscIdleQualificationStatus → List ℕ
idle_bytes None = 0x00 ∷ []
idle_bytes (Some idle.Pending) = 0x01 ∷ []
idle_bytes (Some idle.Qualified) = 0x02 ∷ []
idle_bytes (Some (idle.Failed f)) = failure_bytes f

-- in 03 and 05 an idle status follows the sample
unfoldable pub delivered_bytes : Delivered → List ℕ
delivered_bytes d = 0x02 ∷ (sample_bytes d.update ++ idle_bytes d.status)

-- 01: 00 none or 01 S L
unfoldable pub next_bytes : Option EscActuatorRequest → List ℕ
next_bytes q = optional_bytes request_bytes q

-- 03: 00 rejected, 01 accepted, 02 sample
unfoldable pub ack_bytes : AckAnswer → List ℕ
ack_bytes ack.Rejected = 0x00 ∷ []
ack_bytes ack.Accepted = 0x01 ∷ []
ack_bytes (ack.Sample d) = delivered_bytes d

-- 04: 00 none, 01 acknowledgement or 02 response timeout, and S L
unfoldable pub timeout_bytes : Option EscManagerTimeout → List ℕ
timeout_bytes None = 0x00 ∷ []
timeout_bytes (Some (timeout.ActuatorAck q)) = 0x01 ∷ request_bytes q
timeout_bytes (Some (timeout.TelemetryResponse q)) = 0x02 ∷ request_bytes q

-- 05: 00 none or 02 sample
unfoldable pub wire_bytes : Option Delivered → List ℕ
wire_bytes None = 0x00 ∷ []
wire_bytes (Some d) = delivered_bytes d

-- 08: 00 none, or 01 and a count (4)
unfoldable pub back_bytes : Option ℕ → List ℕ
back_bytes n = optional_bytes (bytes_of 4) n

-- the parser's three counts
abbrev pub parser_bytes : ParserStats → List ℕ
parser_bytes p = bytes_of 4 p.valid_frames ++ (bytes_of 4 p.crc_failures ++ bytes_of 4 p.discarded_bytes)

-- the ten counts of `EscManagerStats` in its order (4 each)
abbrev pub stats_bytes : EscManagerStats → List ℕ
stats_bytes s =
    bytes_of 4 s.requests_queued
    ++ (bytes_of 4 s.requests_started
    ++ (bytes_of 4 s.actuator_ack_timeouts
    ++ (bytes_of 4 s.telemetry_response_timeouts
    ++ (bytes_of 4 s.mismatched_acks
    ++ (bytes_of 4 s.unsolicited_frames ++ (bytes_of 4 s.recoveries ++ parser_bytes s.wire))))))

-- 0c: faulted, retrying (1 byte each, 00 or 01), then the counts
unfoldable pub report_bytes : UnitReport → List ℕ
report_bytes r = flag_byte r.faulted ∷ flag_byte r.retrying ∷ stats_bytes r.stats

-- 0d: 00 none, or 01 sample
unfoldable pub stored_bytes : Option EscTelemetryUpdate → List ℕ
stored_bytes u = optional_bytes sample_bytes u

-- 0e: samples (4), hottest (1), lowest voltage (2)
unfoldable pub figure_bytes : Figure → List ℕ
figure_bytes f = bytes_of 4 f.samples ++ (bytes_of 1 f.hottest_c ++ bytes_of 2 f.lowest_cv)

unfoldable pub body_bytes : Answer → List ℕ
body_bytes answer.Done = []
body_bytes (answer.Request q) = next_bytes q
body_bytes (answer.Decided b) = flag_byte b ∷ []
body_bytes (answer.Ack a) = ack_bytes a
body_bytes (answer.Timeout t) = timeout_bytes t
body_bytes (answer.Wire w) = wire_bytes w
body_bytes (answer.BackAfterRetries n) = back_bytes n
body_bytes (answer.Idle i) = idle_bytes i
body_bytes (answer.Report r) = report_bytes r
body_bytes (answer.Stored s) = stored_bytes s
body_bytes (answer.Figures f) = figure_bytes f

unfoldable pub answer_bytes : Answer → List ℕ
answer_bytes a = 0x00 ∷ body_bytes a

-- as much as any answer takes
abbrev pub longest_answer : ℕ
longest_answer = 43

-- what is printed of a reply
unfoldable pub reply_bytes : Reply Answer → List ℕ
reply_bytes (accepted a) = answer_bytes a
reply_bytes (refused n) = n ∷ []
