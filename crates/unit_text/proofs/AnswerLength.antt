-- No reply takes more than the longest answer, so no line of a session is refused for want of room.
use Prim.Native.Nat.{◌≤◌}
use native.Mathlib.Omega.{arith}
use lib.ListN.{length}
use Rattle.base.specs.Reply.{Reply, accepted, refused}
use Rattle.esc_answers.specs.Answer.{reply_bytes, longest_answer}
use Rattle.esc_answers.specs.declared.answer.Answer.{Answer}
use Rattle.esc_answers.proofs.AnswerLaws.{answer-at-most}

pub reply-length : (r : Reply Answer) → length (reply_bytes r) ≤ longest_answer
unfolding reply_bytes
reply-length (accepted a) = answer-at-most a
reply-length (refused n) = omega arith
