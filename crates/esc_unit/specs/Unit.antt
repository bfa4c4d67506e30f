-- The unit: one manager and its books once it was opened, a record's way into it, and a call (document 01, 'Records').
use Rattle.std.specs.Prelude.{ℕ, List, Option, Some, None, leb, length}
use Rattle.base.specs.Choice.{pick}
use Rattle.base.specs.Reply.{Reply, accepted, refused}
use Rattle.base.specs.BigEndian.{overwrite}
use Rattle.esc_feedback.specs.declared.manager.EscManager.{EscManager}
use Rattle.esc_records.specs.Record.{read_record}
use Rattle.esc_answers.specs.Answer.{answer_bytes}
use Rattle.esc_records.specs.declared.record.Record.{Record}
use Rattle.esc_records.specs.declared.record.Record.TheVariants as kind
use Rattle.esc_answers.specs.declared.answer.Answer.{Answer}
use Rattle.esc_books.specs.declared.books.Books.{Books}
use Rattle.esc_kinds.specs.Step.{opened_with, opening, step_of}
use Rattle.esc_kinds.specs.declared.opened.Opened.{Opened}
use Rattle.esc_unit.specs.declared.unit.Unit.{Unit}
use Rattle.esc_kinds.specs.declared.opened.Stepped.{Stepped}

-- no record gave it anything yet
abbrev pub never_opened : Unit
never_opened = record { opened = None }

abbrev pub unit_of : EscManager → Books → Unit
unit_of m b = record { opened = Some (opened_with m b) }

-- a unit and its reply
pub record Replied : Type 0 where
  pub unit : Unit
  pub reply : Reply Answer

-- a refusal leaves the unit as found
abbrev pub refusing : Unit → ℕ → Replied
refusing u n = record { unit = u; reply = refused n }

abbrev pub accepting : Stepped → Replied
accepting s = record { unit = record { opened = Some s.opened }; reply = accepted s.answer }

-- 8: any kind but 00 before the first accepted 00
abbrev pub enter_first : Record → Replied
enter_first (kind.Open c t) = accepting (opening c t)
enter_first (kind.NextRequest now) = refusing never_opened 8
enter_first (kind.MarkRequestQueued q now) = refusing never_opened 8
enter_first (kind.ActuatorAck k now) = refusing never_opened 8
enter_first (kind.PollTimeout now) = refusing never_opened 8
enter_first (kind.WireByte x now) = refusing never_opened 8
enter_first kind.WireDiscontinuity = refusing never_opened 8
enter_first (kind.TryRecover armed now) = refusing never_opened 8
enter_first kind.TakeBackAfterRetries = refusing never_opened 8
enter_first kind.RefreshWireStats = refusing never_opened 8
enter_first (kind.IdleCheck c t) = refusing never_opened 8
enter_first (kind.IdleStatus now) = refusing never_opened 8
enter_first kind.Report = refusing never_opened 8
enter_first (kind.StoredSample o) = refusing never_opened 8
enter_first (kind.Figures o) = refusing never_opened 8

-- once it was opened, every kind is taken
abbrev pub enter_in : Option Opened → Record → Replied
enter_in None r = enter_first r
enter_in (Some o) r = accepting (step_of o.manager o.books r)

unfoldable pub enter : Unit → Record → Replied
enter u r = enter_in u.opened r

-- 9: lent output shorter than what is written
abbrev pub if_room : Unit → ℕ → Replied → Reply Answer → Replied
if_room u room s (refused n) = s
if_room u room s (accepted a) = pick (leb (length (answer_bytes a)) room) s (refusing u 9)

abbrev pub call_on : Unit → ℕ → Reply Record → Replied
call_on u room (refused n) = refusing u n
call_on u room (accepted r) = if_room u room (enter u r) (enter u r).reply

-- a call: a record's bytes, and how much output is lent for the answer
unfoldable pub call_of : Unit → List ℕ → ℕ → Replied
call_of u bytes room = call_on u room (read_record bytes)

-- the lent output afterwards: the answer from its first entry on and the rest as found; all as found where it is refused
unfoldable pub output_after : Reply Answer → List ℕ → List ℕ
output_after (refused n) out = out
output_after (accepted a) out = overwrite 0 (answer_bytes a) out

-- how much was written, or the number
abbrev pub length_of : Reply Answer → Reply ℕ
length_of (refused n) = refused n
length_of (accepted a) = accepted (length (answer_bytes a))
