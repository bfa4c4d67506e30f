-- While the check has given no verdict, every streak is the newest part of its lane's counted samples: over every lawful past.
use mathlib.Core.Path.{◌≡◌, refl, sym}
use mathlib.Core.List.{List, [], ◌∷◌}
use Rattle.std.specs.Prelude.{Option, None, Some}
use Rattle.std.proofs.lemmas.Option.{none-some}
use mathlib.Core.Bool.{Bool, true, false, ◌&&◌, true≢false}
use Prim.Native.Nat.{ℕ}
use lib.Dec.{ltb}
use Rattle.base.specs.Choice.{pick}
use Rattle.esc_lanes.specs.declared.output.Lane.{Lane}
use Rattle.esc_lanes.specs.declared.request.EscTelemetryUpdate.{EscTelemetryUpdate}
use Rattle.esc_idle.specs.declared.idle_verdict.EscIdleQualificationFailure.TheVariants.{InvalidConfig, Overspeed}
use Rattle.esc_idle.specs.declared.idle_verdict.EscIdleQualificationStatus.{EscIdleQualificationStatus}
use Rattle.esc_idle.specs.declared.idle_verdict.EscIdleQualificationStatus.TheVariants.{Pending, Qualified, Failed}
use Rattle.base.specs.Maybe.{earliest}
use Rattle.booking.specs.History.{Opening, Check, Seen, seen, Past}
use Rattle.booking.specs.IdleRule.{check, verdict_in, verdict, valid, past_grace, erpm, streak_at, streak, settled, judged_at, judged}
use Rattle.booking.specs.Rule.{answer_to}
use Rattle.booking.specs.Qualified.{counted}
use Rattle.booking.proofs.Lawful.{Lawful, start, more}
use Rattle.booking.proofs.Asked.{Shows, checks, passes, asks, shown}
use Rattle.booking.proofs.Counted.{Newest, cleared, over, uncounted, run-counts}

-- the statuses 03 to 05
abbrev pub failed : EscIdleQualificationStatus → Bool
failed Pending = false
failed Qualified = false
failed (Failed f) = true

-- what the check says, its settings looked at
abbrev pub says : Check → Option EscTelemetryUpdate → ℕ → (Lane → List EscTelemetryUpdate) → EscIdleQualificationStatus
says k x now f = pick (valid k.config) (judged_at k x now f) (Failed InvalidConfig)

not-over : (k : Check) (x : Option EscTelemetryUpdate) (now : ℕ) (f : Lane → List EscTelemetryUpdate) → failed (says k x now f) ≡ false → over k x now ≡ false
not-over k None now f e = refl
not-over k (Some u) now f e =
    go (valid k.config) (past_grace k now) (ltb k.config.max_erpm_div100 (erpm u)) (settled k now (λ l. streak_at k (Some u) now l (f l))) e
  where
    go : (v g m : Bool) (w : EscIdleQualificationStatus)
        → failed (pick v (pick g (pick m (Failed (Overspeed u.output (erpm u))) w) Pending) (Failed InvalidConfig)) ≡ false → (g && m) ≡ false
    go false g m w z = absurd (true≢false z)
    go true false m w z = refl
    go true true false w z = refl
    go true true true w z = absurd (true≢false z)

-- while there is no verdict, every streak is the newest part of its lane's counted samples
abbrev pub Sound : Past → Type 0
Sound h = verdict h ≡ None → (k : Check) → check h ≡ Some k → (l : Lane) → Newest k.config (streak h l) (counted h l)

pub judged-is : (h : Past) (k : Check) (x : Option EscTelemetryUpdate) (now : ℕ) → check h ≡ Some k → verdict h ≡ None → judged h x now ≡ Some (says
    k x now (streak h))
unfolding judged
judged-is h k x now c v = rw (c, v)

pub unchecked : (h : Past) (x : Option EscTelemetryUpdate) (now : ℕ) → check h ≡ None → judged h x now ≡ None
unfolding judged
unchecked h x now c = rw c

-- a lane after a sample or a 0b that did not fail
module _ (h : Past) (i : Sound h) (e : Seen) (n : e.idle.check ≡ None) (k : Check) (c : check h ≡ Some k) (v : verdict h ≡ None) where
  pub asked-newest : failed (says k e.requests.delivered e.now (streak h)) ≡ false
      → (l : Lane) → Newest k.config (streak_at k e.requests.delivered e.now l (streak h l)) (counted (e ∷ h) l)
  unfolding counted
  asked-newest f l =
      rw (n, v, c)
      (run-counts k e.requests.delivered e.now l (streak h l) (counted h l) (not-over k e.requests.delivered e.now (streak h) f) (i v k c l))

none_of : (x y : Option EscIdleQualificationStatus) → earliest x y ≡ None → (x ≡ None) × (y ≡ None)
none_of None y e = (refl, e)
none_of (Some a) None e = absurd (none-some a (sym e))
none_of (Some a) (Some b) e = absurd (none-some b (sym e))

unfailed : (w : EscIdleQualificationStatus) → verdict_in (Some (Some w)) ≡ None → failed w ≡ false
unfailed Pending e = refl
unfailed Qualified e = refl
unfailed (Failed f) e = absurd (none-some (Failed f) (sym e))

asked-run : (h : Past) (e : Seen) (k : Check) (a : Option EscIdleQualificationStatus) (l : Lane) → e.idle.check ≡ None
    → e.idle.status ≡ Some a → check h ≡ Some k
    → streak (e ∷ h) l ≡ streak_at k e.requests.delivered e.now l (streak h l)
unfolding streak
asked-run h e k a l n s c = rw (n, s, c)

asked-sound : (h : Past) (e : Seen) → e.idle.check ≡ None → e.idle.status ≡ Some (judged h e.requests.delivered e.now) → Sound h → Sound (e ∷ h)
unfolding check verdict
asked-sound h e n s i v k c l =
    let ch : check h ≡ Some k = rw n at c in
    let z : earliest (verdict_in e.idle.status) (verdict h) ≡ None = rw n at v in
    let both = none_of (verdict_in e.idle.status) (verdict h) z in
    let f = rw (s, judged-is h k e.requests.delivered e.now ch both.1) at both.0 in
    rw (asked-run h e k (judged h e.requests.delivered e.now) l n s ch)
    (asked-newest h i e n k ch both.1 (unfailed (says k e.requests.delivered e.now (streak h)) f) l)

shows-sound : (h : Past) (e : Seen) → Shows h e → Sound h → Sound (e ∷ h)
unfolding check verdict streak counted
shows-sound h e (checks k n s) i v k' c l = rw n (cleared k'.config [])
shows-sound h e (passes n s d) i v k c l =
    let ch : check h ≡ Some k = rw n at c in
    let vh : verdict h ≡ None = rw (n, s) at v in
    rw (n, s, d, ch, vh, uncounted (past_grace k e.now)) (i vh k ch l)
shows-sound h e (asks n s) i v k c l = asked-sound h e n s i v k c l

pub lawful-sound : {o : Opening} {h : Past} → Lawful o h → Sound h
unfolding check
lawful-sound start = λ v k c l. absurd (none-some k c)
lawful-sound {o} (more {h} r f i) = shows-sound h (seen r (answer_to o h r)) (shown h o r).shows (lawful-sound i)
