-- Calls with a mark that the unit never sees: whose bytes they are. And the log: what was accepted over a whole list, with the marks.
use Rattle.std.specs.Prelude.{ℕ, List, [], ◌∷◌, map}
use Rattle.std.specs.Prelude.{Option, None}
use Rattle.base.specs.Reply.{Reply, accepted, refused}
use Rattle.esc_records.specs.Record.{read_record}
use Rattle.esc_unit.specs.Unit.{never_opened, call_of}
use Rattle.esc_records.specs.declared.record.Record.{Record}
use Rattle.esc_answers.specs.declared.answer.Answer.{Answer}
use Rattle.esc_unit.specs.declared.unit.Unit.{Unit}
use Rattle.booking.specs.History.{Call, Event, History, Seen, seen, Past, Since, then}
use Rattle.booking.specs.Claims.{past_of}

-- a call, and of a 05 its origin: the request whose start made an ESC send the byte, by its number, which is how many were granted
-- before it in the whole list. No origin is noise; on other kinds the mark says nothing. That the ESC is the one on the request's lane is
-- the harness's part
pub record Marked : Type 0 where
  pub call : Call
  pub origin : Option ℕ

pub record MarkedEvent : Type 0 where
  pub event : Event
  pub origin : Option ℕ

-- newest first
abbrev pub MarkedHistory : Type 0
MarkedHistory = List MarkedEvent

-- without the marks
abbrev pub calls_of : List Marked → List Call
calls_of ms = map (λ (m : Marked). m.call) ms

abbrev pub events_of : MarkedHistory → History
events_of h = map (λ (e : MarkedEvent). e.event) h

-- the calls are fed to the unit as in `run`; a mark is carried along and handed to nothing
unfoldable pub feed_marked : Unit → MarkedHistory → List Marked → MarkedHistory
feed_marked u h [] = h
feed_marked u h (m ∷ ms) =
    feed_marked (call_of u m.call.bytes m.call.room).unit
    (record { event = record { call = m.call; reply = (call_of u m.call.bytes m.call.room).reply }; origin = m.origin } ∷ h)
    ms

unfoldable pub run_marked : List Marked → MarkedHistory
run_marked ms = feed_marked never_opened [] ms

-- what an accepted record and its answer show, and the record's mark
pub record LogEntry : Type 0 where
  pub seen : Seen
  pub origin : Option ℕ

-- newest first, over all openings
abbrev pub Log : Type 0
Log = List LogEntry

-- refused records are passed over
abbrev pub logged : Reply Record → Reply Answer → Option ℕ → Log → Log
logged (refused n) a o l = l
logged (accepted r) (refused n) o l = l
logged (accepted r) (accepted a) o l = record { seen = seen r a; origin = o } ∷ l

unfoldable pub log_of : MarkedHistory → Log
log_of [] = []
log_of (e ∷ h) = logged (read_record e.event.call.bytes) e.event.reply e.origin (log_of h)

abbrev pub log_after : List Marked → Log
log_after ms = log_of (run_marked ms)

-- the latest 00 in a log, and what came after it
unfoldable pub since_in : Log → Option Since
since_in [] = None
since_in (e ∷ l) = then e.seen.opening e.seen (since_in l)

abbrev pub past : Log → Past
past l = past_of (since_in l)
