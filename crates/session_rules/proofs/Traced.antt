-- What a session writes is the text of the trace: each line's reply is the rule's, by the claim over whole lists.
use mathlib.Core.Path.{◌≡◌, refl}
use mathlib.Core.List.{List, [], ◌∷◌}
use Prim.Native.Nat.{ℕ}
use Rattle.base.specs.Reply.{Reply, accepted, refused}
use Rattle.esc_unit.specs.Unit.{never_opened, Replied}
use Rattle.esc_unit.specs.declared.unit.Unit.{Unit}
use Rattle.booking.specs.History.{History, since}
use Rattle.booking.specs.Rule.{rule_for}
use Rattle.booking.proofs.Traced.{Fits, called}
use Rattle.esc_answers.specs.Answer.{longest_answer}
use Rattle.hex_lines.specs.Line.{read_line}
use Rattle.hex_lines.specs.Lines.{lines_of}
use Rattle.unit_text.specs.Session.{answer_on, answer_line, unit_after, line_text, lines_text, session_text}
use Rattle.session_rules.specs.Traced.{ruled, history_after, lines_traced, traced_text}

-- a line's reply, and the unit that it leaves
record Ruled (h : History) (x : Reply (List ℕ)) (k : Replied) : Type 0 where
  replies : k.reply ≡ ruled h x
  fits : Fits (since (history_after h x)) k.unit

line-ruled : (h : History) (u : Unit) → Fits (since h) u → (x : Reply (List ℕ)) → Ruled h x (answer_on u x)
unfolding since rule_for
line-ruled h u i (refused n) = record { replies = refl; fits = i }
line-ruled h u i (accepted bytes) =
    let k = called (since h) u i bytes longest_answer in
    record { replies = k.replies; fits = rw (← k.replies) k.fits }

lines-traced : (lines : List (List ℕ)) (h : History) (u : Unit) → Fits (since h) u → lines_text u lines ≡ lines_traced h lines
unfolding lines_text lines_traced line_text answer_line
lines-traced [] h u i = refl
lines-traced (line ∷ lines) h u i =
    let k = line-ruled h u i (read_line line) in
    rw (k.replies, lines-traced lines (history_after h (read_line line)) (unit_after u line) k.fits)

pub session-traced : (text : List ℕ) → session_text text ≡ traced_text text
unfolding session_text traced_text since
session-traced text = lines-traced (lines_of text) [] never_opened refl
