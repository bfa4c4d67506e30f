-- A line's answer, and what is printed.
use Rattle.std.specs.Prelude.{ℕ, ◌+◌, ◌≡◌, List, length}
use Rattle.base.specs.BigEndian.{overwrite}
use Rattle.base.specs.Reply.{Reply}
use Rattle.esc_answers.specs.Answer.{reply_bytes}
use Rattle.esc_unit.specs.declared.unit.Unit.{Unit}
use Rattle.hex_lines.specs.Line.{printed_line}
use Rattle.unit_text.specs.Session.{answer_on}

-- the unit after a line, and the bytes of its reply
pub record Answers (u : Unit) (line : Reply (List ℕ)) (after : Unit) (said : List ℕ) : Type 0 where
  pub unit : after ≡ (answer_on u line).unit
  pub bytes : said ≡ reply_bytes (answer_on u line).reply

-- bytes on a line of their own, from the place `at` on, and the place behind it
pub record LinePut (said : List ℕ) (at : ℕ) (out : List ℕ) (behind : ℕ) (out' : List ℕ) : Type 0 where
  pub next : behind ≡ at + length (printed_line said)
  pub text : out' ≡ overwrite at (printed_line said) out
