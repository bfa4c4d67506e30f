-- Each entry of a log is a 00 or a record with the rule's answer to it, since every reply is the rule's.
use mathlib.Core.Path.{◌≡◌, refl, sym, ap, subst}
use mathlib.Core.List.{List, [], ◌∷◌, ◌++◌}
use Rattle.std.specs.Prelude.{Option, None, Some}
use mathlib.Core.Bool.{Bool, true, false}
use Prim.Native.Nat.{ℕ}
use lib.Dec.{leb}
use lib.ListN.{length}
use Rattle.base.specs.Choice.{pick}
use Rattle.base.specs.Reply.{Reply, accepted, refused}
use Rattle.esc_feedback.specs.declared.config.EscManagerConfig.{EscManagerConfig}
use Rattle.esc_records.specs.Record.{read_record}
use Rattle.esc_answers.specs.Answer.{answer_bytes}
use Rattle.esc_records.specs.Admission.{opens}
use Rattle.esc_records.specs.declared.record.Record.{Record}
use Rattle.esc_records.specs.declared.record.Record.TheVariants as kind
use Rattle.esc_answers.specs.declared.answer.Answer.{Answer}
use Rattle.esc_answers.specs.declared.answer.Answer.TheVariants as answer
use Rattle.booking.specs.History.{Since, seen, then, since_event, since}
use Rattle.booking.specs.Rule.{answer_to, reply_to, with_room, reply_on, rule_for}
use Rattle.attribution.specs.Marks.{Marked, MarkedHistory, events_of, Log, logged, log_of, log_after, since_in}
use Rattle.attribution.proofs.ByRule.{trace_marked, marked-by-rule}

pub data Lawful : Log → Type 0 where
  start : Lawful []
  opened : {l : Log} (c : EscManagerConfig) (t : ℕ) (o : Option ℕ) → Lawful l → Lawful (record { seen = seen (kind.Open c t) answer.Done; origin = o } ∷ l)
  more : {l : Log} (s : Since) (r : Record) (o : Option ℕ) → since_in l ≡ Some s → opens r ≡ false → Lawful l
      → Lawful (record { seen = seen r (answer_to s.opening s.past r); origin = o } ∷ l)

-- a reply that there is room for is entered, any other passed over
fitting : (l : Log) (r : Record) (a : Answer) (o : Option ℕ) (room : ℕ) → Lawful l → Lawful (record { seen = seen r a; origin = o } ∷ l)
    → Lawful (logged (accepted r) (with_room room (accepted a)) o l)
fitting l r a o room i j = go (leb (length (answer_bytes a)) room)
  where
    go : (z : Bool) → Lawful (logged (accepted r) (pick z (accepted a) (refused 9)) o l)
    go true = j
    go false = i

module _ (l : Log) (o : Option ℕ) (room : ℕ) (i : Lawful l) where
  never-opened : (r : Record) → Lawful (logged (accepted r) (with_room room (reply_to None r)) o l)
  never-opened (kind.Open c t) = fitting l (kind.Open c t) answer.Done o room i (opened c t o i)
  never-opened (kind.NextRequest now) = i
  never-opened (kind.MarkRequestQueued q now) = i
  never-opened (kind.ActuatorAck k now) = i
  never-opened (kind.PollTimeout now) = i
  never-opened (kind.WireByte b now) = i
  never-opened kind.WireDiscontinuity = i
  never-opened (kind.TryRecover armed now) = i
  never-opened kind.TakeBackAfterRetries = i
  never-opened kind.RefreshWireStats = i
  never-opened (kind.IdleCheck c t) = i
  never-opened (kind.IdleStatus now) = i
  never-opened kind.Report = i
  never-opened (kind.StoredSample n) = i
  never-opened (kind.Figures n) = i

  module _ (s : Since) (e : since_in l ≡ Some s) where
    opened-more : (r : Record) → opens r ≡ false → Lawful (logged (accepted r) (with_room room (reply_to (Some s) r)) o l)
    opened-more r f = fitting l r (answer_to s.opening s.past r) o room i (more s r o e f i)

    opened-before : (r : Record) → Lawful (logged (accepted r) (with_room room (reply_to (Some s) r)) o l)
    opened-before (kind.Open c t) = fitting l (kind.Open c t) answer.Done o room i (opened c t o i)
    opened-before (kind.NextRequest now) = opened-more (kind.NextRequest now) refl
    opened-before (kind.MarkRequestQueued q now) = opened-more (kind.MarkRequestQueued q now) refl
    opened-before (kind.ActuatorAck k now) = opened-more (kind.ActuatorAck k now) refl
    opened-before (kind.PollTimeout now) = opened-more (kind.PollTimeout now) refl
    opened-before (kind.WireByte b now) = opened-more (kind.WireByte b now) refl
    opened-before kind.WireDiscontinuity = opened-more kind.WireDiscontinuity refl
    opened-before (kind.TryRecover armed now) = opened-more (kind.TryRecover armed now) refl
    opened-before kind.TakeBackAfterRetries = opened-more kind.TakeBackAfterRetries refl
    opened-before kind.RefreshWireStats = opened-more kind.RefreshWireStats refl
    opened-before (kind.IdleCheck c t) = opened-more (kind.IdleCheck c t) refl
    opened-before (kind.IdleStatus now) = opened-more (kind.IdleStatus now) refl
    opened-before kind.Report = opened-more kind.Report refl
    opened-before (kind.StoredSample n) = opened-more (kind.StoredSample n) refl
    opened-before (kind.Figures n) = opened-more (kind.Figures n) refl

  lawful-entry : (s : Option Since) → since_in l ≡ s → (x : Reply Record) → Lawful (logged x (reply_on room s x) o l)
  lawful-entry s e (refused n) = i
  lawful-entry None e (accepted r) = never-opened r
  lawful-entry (Some s) e (accepted r) = opened-before s e r

-- a log and its history have the same latest 00 and the same past
since-in : (h : MarkedHistory) → since (events_of h) ≡ since_in (log_of h)
unfolding since since_in log_of
since-in [] = refl
since-in (e ∷ h) = go (read_record e.event.call.bytes) e.event.reply (since-in h)
  where
    go : (x : Reply Record) (y : Reply Answer) → since (events_of h) ≡ since_in (log_of h)
        → since_event x y (since (events_of h)) ≡ since_in (logged x y e.origin (log_of h))
    go (refused n) y i = i
    go (accepted r) (refused n) i = i
    go (accepted r) (accepted a) i = ap (then (seen r a).opening (seen r a)) i

lawful-trace : (ms : List Marked) (h : MarkedHistory) → Lawful (log_of h) → Lawful (log_of (trace_marked h ms))
unfolding trace_marked log_of rule_for
lawful-trace [] h i = i
lawful-trace (m ∷ ms) h i =
    lawful-trace ms (record { event = record { call = m.call; reply = rule_for (events_of h) m.call }; origin = m.origin } ∷ h)
    (lawful-entry (log_of h) m.origin m.call.room i (since (events_of h)) (sym (since-in h)) (read_record m.call.bytes))

lawful-after : (ms : List Marked) → Lawful (log_after ms)
unfolding log_of
lawful-after ms = subst (λ (h : MarkedHistory). Lawful (log_of h)) (sym (marked-by-rule ms)) (lawful-trace ms [] start)

-- what a log was before its later entries
lawful-before : (later l : Log) → Lawful (later ++ l) → Lawful l
lawful-before [] l i = i
lawful-before (e ∷ later) l (opened c t o i) = lawful-before later l i
lawful-before (e ∷ later) l (more s r o x f i) = lawful-before later l i

pub lawful-at : (ms : List Marked) (later l : Log) → log_after ms ≡ later ++ l → Lawful l
lawful-at ms later l x = lawful-before later l (subst Lawful x (lawful-after ms))
