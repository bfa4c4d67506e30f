-- A first Qualified is earned: the rule asks for streaks long enough and fresh, and a streak is the newest part of a lane's counted samples.
use mathlib.Core.Path.{◌≡◌, refl, sym, ◌∙◌, ap}
use mathlib.Core.List.{List, [], ◌∷◌}
use Rattle.std.specs.Prelude.{Option, None, Some}
use Rattle.std.proofs.lemmas.Option.{none-some}
use mathlib.Core.Bool.{Bool, true, false, ◌&&◌, false≢true}
use Prim.Native.Nat.{ℕ, ◌≤◌, ◌<◌}
use native.Mathlib.Omega.{arith}
use borrow.Author.Tests.{leb-true, ltb-true}
use lib.Dec.{leb, ltb}
use lib.ListN.{length}
use Rattle.base.specs.Choice.{pick}
use Rattle.base.specs.Reply.{accepted, refused}
use Rattle.base.specs.Due.{due}
use Rattle.esc_lanes.specs.declared.output.Lane.{Lane}
use Rattle.esc_lanes.specs.declared.output.Lane.TheVariants.{Output1, Output2, Output3, Output4}
use Rattle.esc_lanes.specs.declared.request.EscTelemetryUpdate.{EscTelemetryUpdate}
use Rattle.esc_idle.specs.declared.idle_verdict.EscIdleQualificationFailure.TheVariants.{InvalidConfig, Overspeed, Timeout}
use Rattle.esc_idle.specs.declared.idle_verdict.EscIdleQualificationStatus.{EscIdleQualificationStatus}
use Rattle.esc_idle.specs.declared.idle_verdict.EscIdleQualificationStatus.TheVariants.{Pending, Qualified, Failed}
use Rattle.esc_records.specs.Record.{read_record}
use Rattle.esc_answers.specs.Answer.{answer_bytes}
use Rattle.esc_records.specs.declared.record.Record.{Record}
use Rattle.esc_answers.specs.declared.answer.Answer.{Answer}
use Rattle.booking.specs.History.{Call, Check, Seen, seen, said_by, Past, Since, since}
use Rattle.booking.specs.IdleRule.{check, verdict, valid, past_grace, erpm, fresh, joined, streak_at, streak, tally, settled, judged_at}
use Rattle.booking.specs.Rule.{answer_to, with_room, rule_for}
use Rattle.booking.specs.Run.{run}
use Rattle.booking.specs.Qualified.{counted, Earned, QualifiedOnlyIf}
use Rattle.base.proofs.Both.{and_left, and_right}
use Rattle.booking.proofs.Traced.{replies-by-rule}
use Rattle.booking.proofs.Lawful.{lawful-after}
use Rattle.booking.proofs.Asked.{Shows, checks, passes, asks, shown}
use Rattle.booking.proofs.Counted.{fresh-justified}
use Rattle.booking.proofs.Sound.{failed, says, Sound, judged-is, unchecked, asked-newest, lawful-sound}

-- Qualified: the settings are valid, every lane's streak is long enough and has just been looked at for its age
record Enough (k : Check) (now : ℕ) (g : Lane → List EscTelemetryUpdate) : Type 0 where
  needed : 0 < k.config.required_consecutive_samples
  looked : Lane → List EscTelemetryUpdate
  aged : (l : Lane) → g l ≡ fresh k.config now (looked l)
  long : (l : Lane) → k.config.required_consecutive_samples ≤ tally (g l)

every : (p : Lane → Bool) → (p Output1 && p Output2 && p Output3 && p Output4) ≡ true → (l : Lane) → p l ≡ true
every p e Output1 = and_left (p Output1) (p Output2) (and_left (p Output1 && p Output2) (p Output3) (and_left (p Output1 && p Output2 && p Output3) (p
    Output4) e))
every p e Output2 = and_right (p Output1) (p Output2) (and_left (p Output1 && p Output2) (p Output3) (and_left (p Output1 && p Output2 && p Output3)
    (p Output4) e))
every p e Output3 = and_right (p Output1 && p Output2) (p Output3) (and_left (p Output1 && p Output2 && p Output3) (p Output4) e)
every p e Output4 = and_right (p Output1 && p Output2 && p Output3) (p Output4) e

-- the status 02
abbrev qualified : EscIdleQualificationStatus → Bool
qualified Pending = false
qualified Qualified = true
qualified (Failed f) = false

module _ (k : Check) (now : ℕ) where
  long-each : (g : Lane → List EscTelemetryUpdate) → qualified (settled k now g) ≡ true → (l : Lane) → k.config.required_consecutive_samples ≤ tally (g l)
  long-each g e l = leb-true k.config.required_consecutive_samples (tally (g l)) (every p (go (p Output1 && p Output2 && p Output3 && p Output4)
      (due k.start now k.config.timeout_ms) e) l)
    where
      p : Lane → Bool
      p m = leb k.config.required_consecutive_samples (tally (g m))

      go : (a d : Bool) → qualified (pick a Qualified (pick d (Failed (Timeout (tally (g Output1) ∷ tally (g Output2) ∷ tally (g Output3) ∷ tally (g
          Output4) ∷ []))) Pending)) ≡ true → a ≡ true
      go true d z = refl
      go false true z = absurd (false≢true z)
      go false false z = absurd (false≢true z)

  needed-by : valid k.config ≡ true → 0 < k.config.required_consecutive_samples
  unfolding valid
  needed-by v =
      let c = k.config in
      ltb-true 0 c.required_consecutive_samples
      (and_right
      (ltb 0 c.min_erpm_div100
      && ltb c.min_erpm_div100 c.max_erpm_div100
      && ltb c.spinup_grace_ms c.timeout_ms
      && ltb 0 c.max_sample_age_ms)
      (ltb 0 c.required_consecutive_samples) v)

  enough : (x : Option EscTelemetryUpdate) (f : Lane → List EscTelemetryUpdate) → valid k.config ≡ true → qualified (judged_at k x now f) ≡ true
      → Enough k now (λ l. streak_at k x now l (f l))
  enough None f v e = record { needed = needed-by v; looked = f; aged = λ l. refl; long = long-each (λ l. fresh k.config now (f l)) e }
  enough (Some u) f v e = go (past_grace k now) (ltb k.config.max_erpm_div100 (erpm u)) e
    where
      go : (d m : Bool)
          → qualified (pick d (pick m (Failed (Overspeed u.output (erpm u))) (settled k now (λ l. pick d (fresh k.config now (joined k.config
          u l (f l))) (f l)))) Pending) ≡ true
          → Enough k now (λ l. pick d (fresh k.config now (joined k.config u l (f l))) (f l))
      go false m z = absurd (false≢true z)
      go true true z = absurd (false≢true z)
      go true false z =
          record {
            needed = needed-by v;
            looked = λ l. joined k.config u l (f l);
            aged = λ l. refl;
            long = long-each (λ l. fresh k.config now (joined k.config u l (f l))) z;
          }

-- the settings are looked at first
enough-said : (k : Check) (x : Option EscTelemetryUpdate) (now : ℕ) (f : Lane → List EscTelemetryUpdate) → says k x now f ≡ Qualified → Enough k now
    (λ l. streak_at k x now l (f l))
enough-said k x now f e = go (valid k.config) refl (ap qualified e)
  where
    go : (v : Bool) → valid k.config ≡ v → qualified (pick v (judged_at k x now f) (Failed InvalidConfig)) ≡ true → Enough k now (λ l. streak_at k x
        now l (f l))
    go true ok z = enough k now x f ok z
    go false ok z = absurd (false≢true z)

same-status : (v w : EscIdleQualificationStatus) → Some (Some v) ≡ Some (Some w) → v ≡ w
same-status v w e = cc

earned : (h : Past) (e : Seen) → Sound h → Shows h e → e.idle.status ≡ Some (Some Qualified) → verdict h ≡ None → Earned h e
earned h e i (checks k n s) q v = absurd (none-some (Some Qualified) (sym s ∙ q))
earned h e i (passes n s d) q v = absurd (none-some (Some Qualified) (sym s ∙ q))
earned h e i (asks n s) q v = go (check h) refl
  where
    x : Option EscTelemetryUpdate
    x = e.requests.delivered

    go : (m : Option Check) → check h ≡ m → Earned h e
    go None c = let z : Some None ≡ Some (Some Qualified) = rw (unchecked h x e.now c) at (sym s ∙ q) in absurd (let y : ◌≡◌ {A = ℕ} 0 1 = cc
        in omega arith)
    go (Some k) c =
        let w : says k x e.now (streak h) ≡ Qualified = same-status _ _ (rw (judged-is h k x e.now c v) at (sym s ∙ q)) in
        let g = enough-said k x e.now (streak h) w in
        record {
          latest_check = k;
          latest = c;
          lanes = λ l.
              fresh-justified k.config e.now (counted (e ∷ h) l) g.needed (g.looked l)
              (rw (g.aged l) at (asked-newest h i e n k c v (ap failed w) l))
              (rw (g.aged l) at (g.long l));
        }

-- what the reply is, where it is accepted
room-kept : (room : ℕ) (b a : Answer) → with_room room (accepted b) ≡ accepted a → b ≡ a
room-kept room b a e = go (leb (length (answer_bytes b)) room) e
  where
    go : (z : Bool) → pick z (accepted b) (refused 9) ≡ accepted a → b ≡ a
    go true k = cc
    go false k = let y : ◌≡◌ {A = ℕ} 0 1 = cc in absurd (omega arith)

answer-is : (cs : List Call) (s : Since) (c : Call) (r : Record) (a : Answer) → since (run cs).history ≡ Some s → read_record c.bytes ≡ accepted r
    → rule_for (run cs).history c ≡ accepted a → answer_to s.opening s.past r ≡ a
unfolding rule_for
answer-is cs s c r a h x e = room-kept c.room (answer_to s.opening s.past r) a (rw (h, x) at e)

pub qualified-only-if : QualifiedOnlyIf
unfolding QualifiedOnlyIf
qualified-only-if cs s c r a h x y q v =
    let b = answer-is cs s c r a h x (sym (replies-by-rule cs c) ∙ y) in
    let k = shown s.past s.opening r in
    rw (← b)
    (earned s.past (seen r (answer_to s.opening s.past r)) (lawful-sound (lawful-after cs s h)) k.shows
    (sym k.status ∙ ap (λ (z : Answer). (said_by z).status) b ∙ q) v)
