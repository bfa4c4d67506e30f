-- What holds of every answer of `esc_answers`, of any bytes and of any line. In proofs/, `delivered-by-length`, `every-answer-told`,
-- `only-answers`, `only-deliveries`, `read-by-character` and `printed-told` say that it does.
use Rattle.std.specs.Prelude.{◌≡◌, ℕ, ◌≤◌, Bool, true, ◌||◌, Option, Some, None, is_some, List, nat_eq, nat_lt, length}
use Rattle.base.specs.Reply.{Reply, accepted, refused}
use Rattle.base.specs.Bytes.{are_bytes}
use Rattle.esc_idle.specs.declared.idle_verdict.EscIdleQualificationFailure.TheVariants as failure
use Rattle.esc_idle.specs.declared.idle_verdict.EscIdleQualificationStatus.{EscIdleQualificationStatus}
use Rattle.esc_idle.specs.declared.idle_verdict.EscIdleQualificationStatus.TheVariants as idle
use Rattle.hex_lines.specs.Line.{hex_of}
use Rattle.esc_answers.specs.Answer.{sample_bytes, answer_bytes, reply_bytes, longest_answer}
use Rattle.esc_answers.specs.declared.answer.Delivered.{Delivered}
use Rattle.esc_answers.specs.declared.answer.AckAnswer.TheVariants as ack
use Rattle.esc_answers.specs.declared.answer.Answer.{Answer}
use Rattle.esc_answers.specs.declared.answer.Answer.TheVariants as answer
use Rattle.answer_lines.specs.Told.{sample_in, told_by}
use Rattle.answer_lines.specs.AnswerLine.{line_tells, kept_of, any_taken, told_at_end}
use Rattle.answer_lines.specs.declared.told.Told.{Told}
use Rattle.answer_lines.specs.declared.told.Told.TheVariants as told

-- the sample that an answer delivers, to 03 or to 05
abbrev pub delivered_in : Answer → Option Delivered
delivered_in answer.Done = None
delivered_in (answer.Request q) = None
delivered_in (answer.Decided b) = None
delivered_in (answer.Ack ack.Rejected) = None
delivered_in (answer.Ack ack.Accepted) = None
delivered_in (answer.Ack (ack.Sample d)) = Some d
delivered_in (answer.Timeout t) = None
delivered_in (answer.Wire d) = d
delivered_in (answer.BackAfterRetries n) = None
delivered_in (answer.Idle i) = None
delivered_in (answer.Report r) = None
delivered_in (answer.Stored u) = None
delivered_in (answer.Figures f) = None

-- a timeout's counts are four, as their type in the code has it: a list in a definition has no length of its own
abbrev pub FourCounts : Option EscIdleQualificationStatus → Type 0
FourCounts None = Unit {0}
FourCounts (Some idle.Pending) = Unit {0}
FourCounts (Some idle.Qualified) = Unit {0}
FourCounts (Some (idle.Failed failure.InvalidConfig)) = Unit {0}
FourCounts (Some (idle.Failed (failure.Overspeed output erpm))) = Unit {0}
FourCounts (Some (idle.Failed (failure.Timeout counts))) = length counts ≡ 4

-- of a delivery and of an answer: where there is such a timeout in it
abbrev pub DeliveredCounts : Option Delivered → Type 0
DeliveredCounts None = Unit {0}
DeliveredCounts (Some d) = FourCounts d.status

abbrev pub AnswerCounts : Answer → Type 0
AnswerCounts answer.Done = Unit {0}
AnswerCounts (answer.Request q) = Unit {0}
AnswerCounts (answer.Decided b) = Unit {0}
AnswerCounts (answer.Ack ack.Rejected) = Unit {0}
AnswerCounts (answer.Ack ack.Accepted) = Unit {0}
AnswerCounts (answer.Ack (ack.Sample d)) = FourCounts d.status
AnswerCounts (answer.Timeout t) = Unit {0}
AnswerCounts (answer.Wire d) = DeliveredCounts d
AnswerCounts (answer.BackAfterRetries n) = Unit {0}
AnswerCounts (answer.Idle i) = FourCounts i
AnswerCounts (answer.Report r) = Unit {0}
AnswerCounts (answer.Stored u) = Unit {0}
AnswerCounts (answer.Figures f) = Unit {0}

-- an answer, or a refusal that has a number in document 01
abbrev pub Printable : Reply Answer → Type 0
Printable (accepted a) = AnswerCounts a
Printable (refused n) = (1 ≤ n) × (n ≤ 12)

-- the lengths that a delivery is known by
abbrev pub delivery_length : ℕ → Bool
delivery_length n = nat_eq n 25 || (nat_eq n 28 || nat_eq n 29)

-- what an answer tells, by what it delivers
abbrev pub delivery_tells : Option Delivered → Told
delivery_tells None = told.Other
delivery_tells (Some d) = told.Sample (sample_bytes d.update)

-- the sample's own 22 bytes stand behind the first two
abbrev pub SampleBehind : List ℕ → Option Delivered → Type 0
SampleBehind s None = Unit {0}
SampleBehind s (Some d) = sample_in s ≡ sample_bytes d.update

-- of an answer's bytes and the sample that it delivers: they are 25, 28 or 29 if it delivers one, and only then; and what they tell
pub record DeliveredByLength (s : List ℕ) (d : Option Delivered) : Type 0 where
  pub by-length : delivery_length (length s) ≡ is_some d
  pub behind : SampleBehind s d
  pub tells : told_by s ≡ delivery_tells d

abbrev pub DeliveriesByLength : Type 0
DeliveriesByLength = (a : Answer) → AnswerCounts a → DeliveredByLength (answer_bytes a) (delivered_in a)

-- each answer, and each refusal's number, is told as an answer
abbrev pub EveryAnswerTold : Type 0
EveryAnswerTold = (r : Reply Answer) → Printable r → told_by (reply_bytes r) ≡ told.NoAnswer → ⊥

-- a reply that is printed as these bytes
pub record PrintedAs (s : List ℕ) : Type 0 where
  pub reply : Reply Answer
  pub printable : Printable reply
  pub bytes : reply_bytes reply ≡ s

-- and nothing else is
abbrev pub OnlyAnswers : Type 0
OnlyAnswers = (s : List ℕ) → are_bytes s ≡ true → (told_by s ≡ told.NoAnswer → ⊥) → PrintedAs s

-- an answer that delivers a sample and is printed as these bytes
pub record DeliveredAs (s sample : List ℕ) : Type 0 where
  pub answer : Answer
  pub delivered : Delivered
  pub counts : AnswerCounts answer
  pub bytes : answer_bytes answer ≡ s
  pub delivers : delivered_in answer ≡ Some delivered
  pub is : sample_bytes delivered.update ≡ sample

-- a sample is told of such an answer's bytes alone
abbrev pub OnlyDeliveries : Type 0
OnlyDeliveries = (s sample : List ℕ) → are_bytes s ≡ true → told_by s ≡ told.Sample sample → DeliveredAs s sample

-- a line that is read character by character tells what it tells as a whole, and is begun where it has a character
pub record ReadByCharacter : Type 0 where
  pub tells : (line : List ℕ) → told_at_end (kept_of line) ≡ line_tells line
  pub begun : (line : List ℕ) → any_taken (kept_of line) ≡ nat_lt 0 (length line)

-- a line that is printed of bytes, as many as an answer may have, tells what they tell
abbrev pub PrintedTold : Type 0
PrintedTold = (s : List ℕ) → are_bytes s ≡ true → length s ≤ longest_answer → line_tells (hex_of s) ≡ told_by s
