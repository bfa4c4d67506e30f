-- No answer is longer than the buffer.
use Rattle.std.proofs.Common.{arith}
use Rattle.esc_answers.proofs.AnswerLaws.{answer-at-most}
use Rattle.esc_answers.proofs.body.encode.Goals as goal

pub encode-requires : goal.encode-requires
encode-requires g c =
    let fits = rw (g.met.T.Body.says c.args.body) at (answer-at-most (g.T.Body.answer c.args.body)) in
    rw c.accepted-bytes.ensures (omega arith)
