-- Ten counts, one behind the other.
use Rattle.std.proofs.Common.{arith, length-append, ℕ}
use Rattle.esc_answers.proofs.counts.EscManagerStatsEncode.encode.Goals as goal

pub encode-requires-8 : goal.encode-requires-8
encode-requires-8 c = grind (arith, length-append {A = ℕ})
