-- The same session by the rules alone: no unit is in it. Each line that stands for a record is a call with room for any answer.
use Rattle.std.specs.Prelude.{List, [], ◌∷◌, ◌++◌, ℕ}
use Rattle.base.specs.Reply.{Reply, accepted, refused}
use Rattle.esc_answers.specs.Answer.{reply_bytes, longest_answer}
use Rattle.esc_answers.specs.declared.answer.Answer.{Answer}
use Rattle.booking.specs.History.{Call, History}
use Rattle.booking.specs.Rule.{rule_for}
use Rattle.hex_lines.specs.Line.{read_line, printed_line}
use Rattle.hex_lines.specs.Lines.{lines_of}

abbrev pub call_for : List ℕ → Call
call_for bytes = record { bytes = bytes; room = longest_answer }

abbrev pub ruled : History → Reply (List ℕ) → Reply Answer
ruled h (refused n) = refused n
ruled h (accepted bytes) = rule_for h (call_for bytes)

-- a line that stands for no record is no call
abbrev pub history_after : History → Reply (List ℕ) → History
history_after h (refused n) = h
history_after h (accepted bytes) = record { call = call_for bytes; reply = rule_for h (call_for bytes) } ∷ h

unfoldable pub lines_traced : History → List (List ℕ) → List ℕ
lines_traced h [] = []
lines_traced h (line ∷ lines) = printed_line (reply_bytes (ruled h (read_line line))) ++ lines_traced (history_after h (read_line line)) lines

-- the text of the trace
unfoldable pub traced_text : List ℕ → List ℕ
traced_text text = lines_traced [] (lines_of text)
