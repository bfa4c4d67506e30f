-- What is counted and what is left are as long as the session, and what is counted has room.
use Rattle.std.proofs.Common.{◌≡◌, ◌<◌, ◌≤◌, length, arith, ap, le-leb}
use borrow.Author.Tests.{lt-leb}
use Rattle.base.specs.Handed.{handed_reply}
use Rattle.base.specs.Reply.{accepted}
use Rattle.unit_text.specs.Session.{session_text}
use Rattle.unit_text.proofs.PieceLaws.{piece_length}
use Rattle.unit_text.proofs.whole_session.count_answers.Goals as goal

pub loop-n-init : goal.loop-n-init
loop-n-init c = record { total = omega (arith, ap length c.new-pieces.ensures); fits = omega arith }

pub returns-then-room-count : goal.returns-then-room-count
unfolding handed_reply
returns-then-room-count c = let short : c.args.room < length (session_text c.args.text.now) = omega (arith, piece_length c.in-Some.ensures) in
    rw (lt-leb (length (session_text c.args.text.now)) c.args.room short)

pub loop-n-preserved : goal.loop-n-preserved
loop-n-preserved c = record { total = omega (arith, piece_length c.in-Some.ensures); fits = omega arith }

pub returns : goal.returns
unfolding handed_reply
returns c = let none = ap length c.in_default.ensures in
    let fits : length (session_text c.args.text.now) ≤ c.args.room = omega (arith, none) in
    let all : c.loop-n.count ≡ length (session_text c.args.text.now) = omega (arith, none) in
    rw (le-leb (length (session_text c.args.text.now)) c.args.room fits) (ap accepted all)
