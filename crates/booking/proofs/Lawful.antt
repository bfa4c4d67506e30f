-- What the rule makes of a list since its opening: each event is a record with the rule's answer to it.
use mathlib.Core.Path.{◌≡◌, refl, sym, ◌∙◌, ap, subst}
use mathlib.Core.List.{List, [], ◌∷◌}
use Rattle.std.specs.Prelude.{Option, None, Some}
use mathlib.Core.Bool.{Bool, true, false}
use Prim.Native.Nat.{ℕ}
use lib.Dec.{leb}
use lib.ListN.{length}
use Rattle.base.specs.Choice.{pick}
use Rattle.base.specs.Reply.{Reply, accepted, refused}
use Rattle.esc_records.specs.Record.{read_record}
use Rattle.esc_answers.specs.Answer.{answer_bytes}
use Rattle.esc_records.specs.Admission.{opens}
use Rattle.esc_records.specs.declared.record.Record.{Record}
use Rattle.esc_records.specs.declared.record.Record.TheVariants as kind
use Rattle.esc_answers.specs.declared.answer.Answer.{Answer}
use Rattle.booking.specs.History.{Opening, seen, Past, Since, then, since_event, since, Call, History}
use Rattle.booking.specs.Rule.{answer_to, reply_to, with_room, reply_on, rule_for, trace_of}
use Rattle.booking.specs.Run.{run}
use Rattle.booking.proofs.Traced.{traced}
use Rattle.booking.proofs.Accepted.{refused-accepted, accepted-is}

pub data Lawful (o : Opening) : Past → Type 0 where
  start : Lawful o []
  more : {h : Past} (r : Record) → opens r ≡ false → Lawful o h → Lawful o (seen r (answer_to o h r) ∷ h)

abbrev LawfulSince : Option Since → Type 0
LawfulSince None = Unit {0}
LawfulSince (Some s) = Lawful s.opening s.past

-- one record more
lawful-open : (s : Since) → Lawful s.opening s.past → (r : Record) → LawfulSince (then (seen r (answer_to s.opening s.past r)).opening
    (seen r (answer_to s.opening s.past r)) (Some s))
lawful-open s i (kind.Open c t) = start
lawful-open s i (kind.NextRequest now) = more (kind.NextRequest now) refl i
lawful-open s i (kind.MarkRequestQueued q now) = more (kind.MarkRequestQueued q now) refl i
lawful-open s i (kind.ActuatorAck k now) = more (kind.ActuatorAck k now) refl i
lawful-open s i (kind.PollTimeout now) = more (kind.PollTimeout now) refl i
lawful-open s i (kind.WireByte x now) = more (kind.WireByte x now) refl i
lawful-open s i kind.WireDiscontinuity = more kind.WireDiscontinuity refl i
lawful-open s i (kind.TryRecover armed now) = more (kind.TryRecover armed now) refl i
lawful-open s i kind.TakeBackAfterRetries = more kind.TakeBackAfterRetries refl i
lawful-open s i kind.RefreshWireStats = more kind.RefreshWireStats refl i
lawful-open s i (kind.IdleCheck c t) = more (kind.IdleCheck c t) refl i
lawful-open s i (kind.IdleStatus now) = more (kind.IdleStatus now) refl i
lawful-open s i kind.Report = more kind.Report refl i
lawful-open s i (kind.StoredSample l) = more (kind.StoredSample l) refl i
lawful-open s i (kind.Figures l) = more (kind.Figures l) refl i

lawful-reply : (s : Option Since) → LawfulSince s → (r : Record) (a : Answer) → reply_to s r ≡ accepted a → LawfulSince (then (seen r a).opening (seen r a) s)
lawful-reply None i (kind.Open c t) a e = start
lawful-reply None i (kind.NextRequest now) a e = absurd (refused-accepted 8 a e)
lawful-reply None i (kind.MarkRequestQueued q now) a e = absurd (refused-accepted 8 a e)
lawful-reply None i (kind.ActuatorAck k now) a e = absurd (refused-accepted 8 a e)
lawful-reply None i (kind.PollTimeout now) a e = absurd (refused-accepted 8 a e)
lawful-reply None i (kind.WireByte x now) a e = absurd (refused-accepted 8 a e)
lawful-reply None i kind.WireDiscontinuity a e = absurd (refused-accepted 8 a e)
lawful-reply None i (kind.TryRecover armed now) a e = absurd (refused-accepted 8 a e)
lawful-reply None i kind.TakeBackAfterRetries a e = absurd (refused-accepted 8 a e)
lawful-reply None i kind.RefreshWireStats a e = absurd (refused-accepted 8 a e)
lawful-reply None i (kind.IdleCheck c t) a e = absurd (refused-accepted 8 a e)
lawful-reply None i (kind.IdleStatus now) a e = absurd (refused-accepted 8 a e)
lawful-reply None i kind.Report a e = absurd (refused-accepted 8 a e)
lawful-reply None i (kind.StoredSample l) a e = absurd (refused-accepted 8 a e)
lawful-reply None i (kind.Figures l) a e = absurd (refused-accepted 8 a e)
lawful-reply (Some s) i r a e = subst (λ (z : Answer). LawfulSince (then (seen r z).opening (seen r z) (Some s))) (accepted-is _ a e) (lawful-open s i r)

lawful-event : (s : Option Since) → LawfulSince s → (room : ℕ) (x : Reply Record) → LawfulSince (since_event x (reply_on room s x) s)
lawful-event s i room (refused n) = i
lawful-event s i room (accepted r) = go (reply_to s r) refl
  where
    go : (y : Reply Answer) → reply_to s r ≡ y → LawfulSince (since_event (accepted r) (with_room room y) s)
    go (refused n) e = i
    go (accepted a) e = fitting (leb (length (answer_bytes a)) room)
      where
        fitting : (z : Bool) → LawfulSince (since_event (accepted r) (pick z (accepted a) (refused 9)) s)
        fitting true = lawful-reply s i r a e
        fitting false = i

lawful-trace : (cs : List Call) (h : History) → LawfulSince (since h) → LawfulSince (since (trace_of h cs))
unfolding trace_of since rule_for
lawful-trace [] h i = i
lawful-trace (c ∷ cs) h i = lawful-trace cs (record { call = c; reply = rule_for h c } ∷ h) (lawful-event (since h) i c.room (read_record c.bytes))

pub lawful-after : (cs : List Call) (s : Since) → since (run cs).history ≡ Some s → Lawful s.opening s.past
unfolding since
lawful-after cs s e = subst LawfulSince (ap since (sym (traced cs)) ∙ e) (lawful-trace cs [] tt)
