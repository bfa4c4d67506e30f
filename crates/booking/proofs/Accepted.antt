-- An accepted reply to a call after a list is the rule's answer to its record, and it is the 00's where nothing was opened.
use mathlib.Core.Path.{◌≡◌, sym, ◌∙◌, ap}
use mathlib.Core.List.{List}
use mathlib.Core.Bool.{Bool, true, false, false≢true}
use Prim.Native.Nat.{ℕ}
use lib.Dec.{leb}
use lib.ListN.{length}
use Rattle.base.specs.Choice.{pick}
use Rattle.base.specs.Reply.{Reply, accepted, refused, is_accepted}
use Rattle.esc_records.specs.Record.{read_record}
use Rattle.esc_answers.specs.Answer.{answer_bytes}
use Rattle.esc_records.specs.declared.record.Record.{Record}
use Rattle.esc_answers.specs.declared.answer.Answer.{Answer}
use Rattle.booking.specs.History.{since, Call}
use Rattle.booking.specs.Rule.{reply_to, with_room, reply_on, rule_for}
use Rattle.booking.specs.Run.{run}
use Rattle.booking.specs.Claims.{reply_after}
use Rattle.booking.proofs.Traced.{replies-by-rule}

pub refused-accepted : {A : Type 0} (n : ℕ) (a : A) → refused n ≡ accepted a → ⊥
refused-accepted n a e = false≢true (ap is_accepted e)

pub accepted-is : (a b : Answer) → ◌≡◌ {A = Reply Answer} (accepted a) (accepted b) → a ≡ b
accepted-is a b e = cc

-- the room that was lent has no say in what is accepted
room-accepted : (room : ℕ) (y : Reply Answer) (a : Answer) → with_room room y ≡ accepted a → y ≡ accepted a
room-accepted room (refused n) a e = absurd (refused-accepted n a e)
room-accepted room (accepted b) a e = go (leb (length (answer_bytes b)) room) e
  where
    go : (z : Bool) → pick z (accepted b) (refused 9) ≡ accepted a → accepted b ≡ accepted a
    go true k = k
    go false k = absurd (refused-accepted 9 a k)

pub accepted-by-rule : (cs : List Call) (c : Call) (r : Record) (a : Answer) → read_record c.bytes ≡ accepted r → reply_after cs c ≡ accepted a
    → reply_to (since (run cs).history) r ≡ accepted a
unfolding rule_for
accepted-by-rule cs c r a read reply =
    room-accepted c.room (reply_to (since (run cs).history) r) a
    (ap (reply_on c.room (since (run cs).history)) (sym read) ∙ sym (replies-by-rule cs c) ∙ reply)

-- a record that is not read is refused
pub refused-reply : (cs : List Call) (c : Call) (n : ℕ) → read_record c.bytes ≡ refused n → refused n ≡ reply_after cs c
unfolding rule_for
refused-reply cs c n read = ap (reply_on c.room (since (run cs).history)) (sym read) ∙ sym (replies-by-rule cs c)
