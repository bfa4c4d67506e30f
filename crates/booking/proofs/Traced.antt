-- Over every list of calls, refused ones included, every reply is the rule's.
use mathlib.Core.Path.{◌≡◌, refl, sym, ◌∙◌, ap, subst}
use mathlib.Core.List.{List, [], ◌∷◌}
use Rattle.std.specs.Prelude.{Option, None, Some}
use mathlib.Core.Bool.{Bool, true, false}
use Prim.Native.Nat.{ℕ}
use lib.Dec.{leb}
use lib.ListN.{length}
use Rattle.base.specs.Choice.{pick}
use Rattle.base.specs.Reply.{Reply, accepted, refused}
use Rattle.esc_records.specs.Record.{read_record}
use Rattle.esc_answers.specs.Answer.{answer_bytes}
use Rattle.esc_kinds.specs.Step.{step_of}
use Rattle.esc_unit.specs.Unit.{never_opened, Replied, refusing, enter, if_room, call_on, call_of}
use Rattle.esc_records.specs.Admission.{opens}
use Rattle.esc_records.specs.declared.record.Record.{Record}
use Rattle.esc_records.specs.declared.record.Record.TheVariants as kind
use Rattle.esc_answers.specs.declared.answer.Answer.{Answer}
use Rattle.esc_unit.specs.declared.unit.Unit.{Unit}
use Rattle.booking.specs.History.{Opening, seen, Past, Since, then, since_event, since, Call, History}
use Rattle.booking.specs.Rule.{reply_to, with_room, reply_on, rule_for, trace_of}
use Rattle.booking.specs.Run.{feed, run}
use Rattle.booking.proofs.ManagerState.{manager_at}
use Rattle.booking.proofs.UnitSteps.{UnitAt, unit-new, step_ok}

-- the unit fits what came since the latest accepted 00, if there was one
abbrev pub Fits : Option Since → Unit → Type 0
Fits None u = u ≡ never_opened
Fits (Some s) u = UnitAt s.opening s.past u

-- after a reply: refused ones are passed over
abbrev pub after : Record → Reply Answer → Option Since → Option Since
after r (refused n) s = s
after r (accepted a) s = then (seen r a).opening (seen r a) s

pub record Entered (s : Option Since) (r : Record) (k : Replied) : Type 0 where
  pub replies : k.reply ≡ reply_to s r
  pub fits : Fits (after r k.reply s) k.unit

-- an opened unit
stepped-in : (o : Opening) (h : Past) (u : Unit) → UnitAt o h u → (r : Record) → opens r ≡ false → ((a : Answer) → (seen r a).opening ≡ None)
    → Entered (Some (record { opening = o; past = h })) r (enter u r)
unfolding enter
stepped-in o h u i r f g =
    let s : Option Since = Some (record { opening = o; past = h }) in
    let k = step_ok o h i.p i.b i.parser i.calm i.books r f in
    subst (λ (z : Unit). Entered s r (enter z r)) (sym i.state)
    (record { replies = ap accepted k.answers; fits = rw (g (step_of (manager_at o h i.p) i.b r).answer) k.unit })

entered-open : (o : Opening) (h : Past) (u : Unit) → UnitAt o h u → (r : Record) → Entered (Some (record { opening = o; past = h })) r (enter u r)
unfolding enter step_of
entered-open o h u i (kind.Open c t) =
    subst (λ (z : Unit). Entered (Some (record { opening = o; past = h })) (kind.Open c t) (enter z (kind.Open c t))) (sym i.state)
    (record { replies = refl; fits = unit-new (record { config = c; boot = t }) })
entered-open o h u i (kind.NextRequest now) = stepped-in o h u i (kind.NextRequest now) refl (λ a. refl)
entered-open o h u i (kind.MarkRequestQueued q now) = stepped-in o h u i (kind.MarkRequestQueued q now) refl (λ a. refl)
entered-open o h u i (kind.ActuatorAck k now) = stepped-in o h u i (kind.ActuatorAck k now) refl (λ a. refl)
entered-open o h u i (kind.PollTimeout now) = stepped-in o h u i (kind.PollTimeout now) refl (λ a. refl)
entered-open o h u i (kind.WireByte x now) = stepped-in o h u i (kind.WireByte x now) refl (λ a. refl)
entered-open o h u i kind.WireDiscontinuity = stepped-in o h u i kind.WireDiscontinuity refl (λ a. refl)
entered-open o h u i (kind.TryRecover armed now) = stepped-in o h u i (kind.TryRecover armed now) refl (λ a. refl)
entered-open o h u i kind.TakeBackAfterRetries = stepped-in o h u i kind.TakeBackAfterRetries refl (λ a. refl)
entered-open o h u i kind.RefreshWireStats = stepped-in o h u i kind.RefreshWireStats refl (λ a. refl)
entered-open o h u i (kind.IdleCheck c t) = stepped-in o h u i (kind.IdleCheck c t) refl (λ a. refl)
entered-open o h u i (kind.IdleStatus now) = stepped-in o h u i (kind.IdleStatus now) refl (λ a. refl)
entered-open o h u i kind.Report = stepped-in o h u i kind.Report refl (λ a. refl)
entered-open o h u i (kind.StoredSample l) = stepped-in o h u i (kind.StoredSample l) refl (λ a. refl)
entered-open o h u i (kind.Figures l) = stepped-in o h u i (kind.Figures l) refl (λ a. refl)

-- a unit never opened
entered-closed : (r : Record) → Entered None r (enter never_opened r)
unfolding enter
entered-closed (kind.Open c t) = record { replies = refl; fits = unit-new (record { config = c; boot = t }) }
entered-closed (kind.NextRequest now) = record { replies = refl; fits = refl }
entered-closed (kind.MarkRequestQueued q now) = record { replies = refl; fits = refl }
entered-closed (kind.ActuatorAck k now) = record { replies = refl; fits = refl }
entered-closed (kind.PollTimeout now) = record { replies = refl; fits = refl }
entered-closed (kind.WireByte x now) = record { replies = refl; fits = refl }
entered-closed kind.WireDiscontinuity = record { replies = refl; fits = refl }
entered-closed (kind.TryRecover armed now) = record { replies = refl; fits = refl }
entered-closed kind.TakeBackAfterRetries = record { replies = refl; fits = refl }
entered-closed kind.RefreshWireStats = record { replies = refl; fits = refl }
entered-closed (kind.IdleCheck c t) = record { replies = refl; fits = refl }
entered-closed (kind.IdleStatus now) = record { replies = refl; fits = refl }
entered-closed kind.Report = record { replies = refl; fits = refl }
entered-closed (kind.StoredSample l) = record { replies = refl; fits = refl }
entered-closed (kind.Figures l) = record { replies = refl; fits = refl }

entered : (s : Option Since) (u : Unit) → Fits s u → (r : Record) → Entered s r (enter u r)
entered None u i r = subst (λ (z : Unit). Entered None r (enter z r)) (sym i) (entered-closed r)
entered (Some s) u i r = entered-open s.opening s.past u i r

-- with the room lent
pub record Called (s : Option Since) (room : ℕ) (x : Reply Record) (k : Replied) : Type 0 where
  pub replies : k.reply ≡ reply_on room s x
  pub fits : Fits (since_event x k.reply s) k.unit

called_on : (s : Option Since) (u : Unit) → Fits s u → (room : ℕ) (x : Reply Record) → Called s room x (call_on u room x)
called_on s u i room (refused n) = record { replies = refl; fits = i }
called_on s u i room (accepted r) = go (enter u r).reply refl
  where
    k : Entered s r (enter u r)
    k = entered s u i r

    by-rule : (y : Reply Answer) → (enter u r).reply ≡ y → with_room room (reply_to s r) ≡ with_room room y
    by-rule y e = ap (with_room room) (sym k.replies ∙ e)

    whole : (y : Reply Answer) → (enter u r).reply ≡ y → Fits (since_event (accepted r) y s) (enter u r).unit
    whole (refused n) e = rw e at k.fits
    whole (accepted a) e = rw e at k.fits

    fitting : (a : Answer) → (enter u r).reply ≡ accepted a → (z : Bool) → leb (length (answer_bytes a)) room ≡ z
        → Called s room (accepted r) (pick z (enter u r) (refusing u 9))
    fitting a e true z = record { replies = e ∙ sym (by-rule (accepted a) e ∙ rw z); fits = rw e (whole (accepted a) e) }
    fitting a e false z = record { replies = sym (by-rule (accepted a) e ∙ rw z); fits = i }

    go : (y : Reply Answer) → (enter u r).reply ≡ y → Called s room (accepted r) (if_room u room (enter u r) y)
    go (refused n) e = record { replies = e ∙ sym (by-rule (refused n) e); fits = rw e (whole (refused n) e) }
    go (accepted a) e = fitting a e (leb (length (answer_bytes a)) room) refl

pub called : (s : Option Since) (u : Unit) → Fits s u → (bytes : List ℕ) (room : ℕ) → Called s room (read_record bytes) (call_of u bytes room)
unfolding call_of
called s u i bytes room = called_on s u i room (read_record bytes)

feed-is : (cs : List Call) (u : Unit) (h : History) → Fits (since h) u → (feed u h cs).history ≡ trace_of h cs
unfolding feed trace_of since rule_for
feed-is [] u h i = refl
feed-is (c ∷ cs) u h i =
    let k = called (since h) u i c.bytes c.room in
    feed-is cs (call_of u c.bytes c.room).unit (record { call = c; reply = (call_of u c.bytes c.room).reply } ∷ h) k.fits
    ∙ ap (λ (y : Reply Answer). trace_of (record { call = c; reply = y } ∷ h) cs) k.replies

-- every answer of every kind, refusals too: the whole list of replies is the trace computed from the rules alone
pub traced : (cs : List Call) → (run cs).history ≡ trace_of [] cs
unfolding run since
traced cs = feed-is cs never_opened [] refl

fits-feed : (cs : List Call) (u : Unit) (h : History) → Fits (since h) u → Fits (since (feed u h cs).history) (feed u h cs).unit
unfolding feed since
fits-feed [] u h i = i
fits-feed (c ∷ cs) u h i =
    fits-feed cs (call_of u c.bytes c.room).unit (record { call = c; reply = (call_of u c.bytes c.room).reply } ∷ h)
    (called (since h) u i c.bytes c.room).fits

-- after a list, the unit fits the list's history
pub fits_after : (cs : List Call) → Fits (since (run cs).history) (run cs).unit
unfolding run since
fits_after cs = fits-feed cs never_opened [] refl

-- and its reply to one call more is the rule's
pub replies-by-rule : (cs : List Call) (c : Call) → (call_of (run cs).unit c.bytes c.room).reply ≡ rule_for (run cs).history c
unfolding rule_for
replies-by-rule cs c = (called (since (run cs).history) (run cs).unit (fits_after cs) c.bytes c.room).replies
