-- Each way of a record into the unit and of a call, and that a refusal keeps the unit and the lent output.
use mathlib.Core.Path.{◌≡◌, refl, sym, ap}
use mathlib.Core.Bool.{Bool, true, false, ◌||◌, false≢true}
use mathlib.Core.List.{List}
use Prim.Native.Nat.{ℕ}
use lib.Dec.{leb}
use lib.ListN.{length}
use Rattle.std.specs.Prelude.{Option, Some, None, is_some}
use Rattle.base.specs.Choice.{pick}
use Rattle.base.specs.Reply.{Reply, accepted, refused, is_accepted}
use Rattle.esc_records.specs.Record.{read_record}
use Rattle.esc_records.specs.Admission.{opens, admitted_on, admitted_of}
use Rattle.esc_records.specs.declared.record.Record.{Record}
use Rattle.esc_records.specs.declared.record.Record.TheVariants as kind
use Rattle.esc_answers.specs.Answer.{answer_bytes}
use Rattle.esc_answers.specs.declared.answer.Answer.{Answer}
use Rattle.esc_kinds.specs.Step.{opening, step_of}
use Rattle.esc_unit.specs.Unit.{Replied, refusing, accepting, enter_in, enter, call_on, call_of, output_after}
use Rattle.esc_kinds.specs.declared.opened.Opened.{Opened}
use Rattle.esc_unit.specs.declared.unit.Unit.{Unit}
use Rattle.esc_kinds.specs.declared.opened.Stepped.{Stepped}

-- a record into an opened unit
pub enter-opened : (u : Unit) (o : Opened) (r : Record) → u.opened ≡ Some o → enter u r ≡ accepting (step_of o.manager o.books r)
unfolding enter
enter-opened u o r e = ap (λ (x : Option Opened). enter_in x r) e

-- a call is what its bytes are read as, entered
pub call-read : (u : Unit) (s : List ℕ) (room : ℕ) → call_of u s room ≡ call_on u room (read_record s)
unfolding call_of
call-read u s room = refl

-- what is taken is answered, and what is not is refused by 8
pub data Entered (o : Option Opened) (r : Record) (k : Replied) : Type 0 where
  taken : (s : Stepped) → is_some o || opens r ≡ true → k ≡ accepting s → Entered o r k
  unopened : is_some o || opens r ≡ false → k ≡ refusing (record { opened = o }) 8 → Entered o r k

pub entered : (o : Option Opened) (r : Record) → Entered o r (enter_in o r)
entered (Some o) r = taken (step_of o.manager o.books r) refl refl
entered None (kind.Open c t) = taken (opening c t) refl refl
entered None (kind.NextRequest now) = unopened refl refl
entered None (kind.MarkRequestQueued q now) = unopened refl refl
entered None (kind.ActuatorAck k now) = unopened refl refl
entered None (kind.PollTimeout now) = unopened refl refl
entered None (kind.WireByte x now) = unopened refl refl
entered None kind.WireDiscontinuity = unopened refl refl
entered None (kind.TryRecover armed now) = unopened refl refl
entered None kind.TakeBackAfterRetries = unopened refl refl
entered None kind.RefreshWireStats = unopened refl refl
entered None (kind.IdleCheck c t) = unopened refl refl
entered None (kind.IdleStatus now) = unopened refl refl
entered None kind.Report = unopened refl refl
entered None (kind.StoredSample l) = unopened refl refl
entered None (kind.Figures l) = unopened refl refl

-- a call is its record's admission, and then its answer
pub call_admission : (u : Unit) (s : List ℕ) (room : ℕ) → call_of u s room ≡ call_on u room (admitted_of (is_some u.opened) s)
unfolding enter call_of admitted_of
call_admission u s room = go (read_record s)
  where
    by : (r : Record) → Entered u.opened r (enter u r)
        → call_on u room (accepted r) ≡ call_on u room (pick (is_some u.opened || opens r) (accepted r) (refused 8))
    by r (taken s t e) = rw t
    by r (unopened t e) = rw (t, e)

    go : (q : Reply Record) → call_on u room q ≡ call_on u room (admitted_on (is_some u.opened) q)
    go (refused n) = refl
    go (accepted r) = by r (entered u.opened r)

-- a refused call leaves the unit and the lent output as found
pub record Kept (u : Unit) (k : Replied) : Type 0 where
  pub unit : k.unit ≡ u
  pub output : (out : List ℕ) → output_after k.reply out ≡ out

module _ (u : Unit) (room n : ℕ) where
  kept-roomed : (s : Stepped) (b : Bool) → (pick b (accepting s) (refusing u 9)).reply ≡ refused n → (pick b (accepting s) (refusing u 9)).unit ≡ u
  kept-roomed s true h = absurd (false≢true (sym (ap is_accepted h)))
  kept-roomed s false h = refl

  kept-entered : (r : Record) → Entered u.opened r (enter u r) → (call_on u room (accepted r)).reply ≡ refused n → (call_on u room (accepted r)).unit ≡ u
  kept-entered r (taken s t e) h = rw e (kept-roomed s (leb (length (answer_bytes s.answer)) room) (rw e at h))
  kept-entered r (unopened t e) h = rw e

  kept-read : (q : Reply Record) → (call_on u room q).reply ≡ refused n → (call_on u room q).unit ≡ u
  unfolding enter
  kept-read (refused m) h = refl
  kept-read (accepted r) h = kept-entered r (entered u.opened r) h

pub call-keeps : (u : Unit) (s : List ℕ) (room n : ℕ) → (call_of u s room).reply ≡ refused n → Kept u (call_of u s room)
unfolding call_of output_after
call-keeps u s room n e =
    record { unit = kept-read u room n (read_record s) e; output = λ out. ap (λ (q : Reply Answer). output_after q out) e }
