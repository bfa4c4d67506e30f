-- What the bytes of an answer stand for.
use Rattle.std.specs.Prelude.{ℕ, List, take}
use Rattle.esc_answers.specs.declared.answer_bytes.AnswerBytes.{AnswerBytes}

-- the bytes that are there
abbrev pub encoded_of : AnswerBytes → List ℕ
encoded_of a = take a.len a.bytes
