-- An answer is 00 and its body: the laws of `encode`'s types, which src/body.rt cites. Each is what `answer_bytes` and `body_bytes` say.
use Rattle.std.specs.Prelude.{◌≡◌, Option, ◌∷◌}
use Rattle.std.proofs.Common.{refl}
use Rattle.esc_lanes.specs.declared.request.EscActuatorRequest.{EscActuatorRequest}
use Rattle.esc_feedback.specs.declared.answer.EscManagerTimeout.{EscManagerTimeout}
use Rattle.esc_answers.specs.Answer.{optional_bytes, request_bytes, next_bytes, ack_bytes, timeout_bytes, wire_bytes, body_bytes, answer_bytes}
use Rattle.esc_answers.specs.declared.answer.Delivered.{Delivered}
use Rattle.esc_answers.specs.declared.answer.AckAnswer.{AckAnswer}
use Rattle.esc_answers.specs.declared.answer.Answer.{Answer}
use Rattle.esc_answers.specs.declared.answer.Answer.TheVariants as answer

pub answer_says : (a : Answer) → answer_bytes a ≡ 0x00 ∷ body_bytes a
unfolding answer_bytes
answer_says a = refl

pub next_says : (q : Option EscActuatorRequest) → answer_bytes (answer.Request q) ≡ 0x00 ∷ optional_bytes request_bytes q
unfolding answer_bytes body_bytes next_bytes
next_says q = refl

pub ack_says : (a : AckAnswer) → answer_bytes (answer.Ack a) ≡ 0x00 ∷ ack_bytes a
unfolding answer_bytes body_bytes
ack_says a = refl

pub timeout_says : (t : Option EscManagerTimeout) → answer_bytes (answer.Timeout t) ≡ 0x00 ∷ timeout_bytes t
unfolding answer_bytes body_bytes
timeout_says t = refl

pub wire_says : (d : Option Delivered) → answer_bytes (answer.Wire d) ≡ 0x00 ∷ wire_bytes d
unfolding answer_bytes body_bytes
wire_says d = refl
