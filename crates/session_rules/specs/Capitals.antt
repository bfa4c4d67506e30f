-- Sessions written in capitals (document 02, Q-1).
use Rattle.std.specs.Prelude.{ℕ, ◌≡◌, true, List, [], ◌∷◌, ◌++◌}
use Rattle.esc_answers.specs.Answer.{reply_bytes}
use Rattle.esc_unit.specs.Unit.{never_opened}
use Rattle.esc_unit.specs.declared.unit.Unit.{Unit}
use Rattle.hex_lines.specs.Line.{printed_line}
use Rattle.hex_lines.specs.Capitals.{lowered, no_capitals}
use Rattle.hex_lines.specs.LineBefore.{read_before}
use Rattle.hex_lines.specs.Lines.{lines_of}
use Rattle.unit_text.specs.Session.{answer_on, session_text}

-- a session as it was before A-F were digits: each line is read as it was then, and answered and printed as ever
unfoldable pub text_before : Unit → List (List ℕ) → List ℕ
text_before u [] = []
text_before u (line ∷ lines) =
    printed_line (reply_bytes (answer_on u (read_before line)).reply) ++ text_before (answer_on u (read_before line)).unit lines

unfoldable pub session_before : List ℕ → List ℕ
session_before text = text_before never_opened (lines_of text)

-- 'Take A-F as well as a-f': for every text, its session prints what the text with its capitals lowered prints
abbrev pub CapitalsAlike : Type 0
CapitalsAlike = (text : List ℕ) → session_text text ≡ session_text (lowered text)

-- 'A session without capitals gets the answers it got'
abbrev pub AnsweredAsBefore : Type 0
AnsweredAsBefore = (text : List ℕ) → no_capitals text ≡ true → session_text text ≡ session_before text

-- 'answers are still printed small'
abbrev pub PrintedSmall : Type 0
PrintedSmall = (text : List ℕ) → no_capitals (session_text text) ≡ true
