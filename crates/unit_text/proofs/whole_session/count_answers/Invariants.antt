-- What is counted and what is left are as long as the session, and what is counted has room.
use Rattle.std.proofs.Common.{◌≡◌, ◌+◌, ◌≤◌, length}
use Rattle.unit_text.specs.Session.{session_text}
use Rattle.unit_text.specs.Pieces.{left_text, steps_left}
use Rattle.unit_text.proofs.whole_session.count_answers.Given as goal

abbrev pub invariant-loop-n : goal.invariant-loop-n
invariant-loop-n l = record {
  total : l.count + length (left_text l.pieces) ≡ length (session_text l.text);
  fits : l.count ≤ l.room;
}

abbrev pub decreases-loop-n : goal.decreases-loop-n
decreases-loop-n l = steps_left l.pieces
