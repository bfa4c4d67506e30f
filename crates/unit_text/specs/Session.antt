-- A session (document 01, 'Records'): the lines of a text, each answered by the unit that the one before left.
use Rattle.std.specs.Prelude.{ℕ, List, [], ◌∷◌, ◌++◌}
use Rattle.base.specs.Reply.{Reply, accepted, refused}
use Rattle.esc_unit.specs.Unit.{Replied, refusing, call_of, never_opened}
use Rattle.esc_answers.specs.Answer.{reply_bytes, longest_answer}
use Rattle.esc_unit.specs.declared.unit.Unit.{Unit}
use Rattle.hex_lines.specs.Line.{read_line, printed_line}
use Rattle.hex_lines.specs.Lines.{lines_of}

-- a line that stands for no record is refused, and leaves the unit as found
abbrev pub answer_on : Unit → Reply (List ℕ) → Replied
answer_on u (refused n) = refusing u n
answer_on u (accepted record-bytes) = call_of u record-bytes longest_answer

unfoldable pub answer_line : Unit → List ℕ → Replied
answer_line u line = answer_on u (read_line line)

abbrev pub unit_after : Unit → List ℕ → Unit
unit_after u line = (answer_line u line).unit

-- what is printed for a line; a refusal is its number as one byte
unfoldable pub line_text : Unit → List ℕ → List ℕ
line_text u line = printed_line (reply_bytes (answer_line u line).reply)

unfoldable pub lines_text : Unit → List (List ℕ) → List ℕ
lines_text u [] = []
lines_text u (line ∷ lines) = line_text u line ++ lines_text (unit_after u line) lines

unfoldable pub session_text : List ℕ → List ℕ
session_text text = lines_text never_opened (lines_of text)
