-- The idle check's state as a function of the history: a lane's count and newest sample are those of its streak.
use mathlib.Core.Path.{◌≡◌, refl, sym, ◌∙◌, ap, subst}
use mathlib.Core.List.{List, [], ◌∷◌}
use Rattle.std.specs.Prelude.{Option, None, Some}
use Rattle.std.proofs.lemmas.Option.{none-some}
use mathlib.Core.Bool.{Bool, true, false, ◌&&◌}
use Prim.Native.Nat.{ℕ, suc, ◌+◌, min}
use native.Mathlib.Omega.{arith}
use lib.Dec.{leb, ltb}
use lib.ListN.{length}
use Rattle.base.specs.Choice.{pick}
use Rattle.base.specs.Due.{due}
use Rattle.esc_idle.specs.IdleConfig.{valid_settings}
use Rattle.esc_idle.specs.IdleLane.{clear_lane, count_lane, newest_expired, expire_lane, expire_lanes, every_enough}
use Rattle.esc_idle.specs.Idle.{new_idle, saying, decided, standing, unless_standing, fresh_at, weighed, status_of, sampled, measured, observe_of}
use Rattle.esc_lanes.specs.declared.output.Lane.{Lane}
use Rattle.esc_lanes.specs.declared.output.Lane.TheVariants.{Output1, Output2, Output3, Output4}
use Rattle.esc_lanes.specs.declared.request.EscTelemetryUpdate.{EscTelemetryUpdate}
use Rattle.esc_idle.specs.declared.idle_config.EscIdleQualificationConfig.{EscIdleQualificationConfig}
use Rattle.esc_idle.specs.declared.idle_lane.IdleLane.{IdleLane}
use Rattle.esc_idle.specs.declared.idle_verdict.EscIdleQualificationFailure.TheVariants.{InvalidConfig, Overspeed, Timeout}
use Rattle.esc_idle.specs.declared.idle_verdict.EscIdleQualificationStatus.{EscIdleQualificationStatus}
use Rattle.esc_idle.specs.declared.idle_verdict.EscIdleQualificationStatus.TheVariants.{Pending, Qualified, Failed}
use Rattle.esc_idle.specs.declared.idle.EscIdleQualification.{EscIdleQualification}
use Rattle.esc_idle.specs.declared.idle.EscIdleJudged.{EscIdleJudged}
use Rattle.base.specs.Maybe.{earliest}
use Rattle.esc_idle.proofs.IdleLaws.{decided-again, status-stands, observe-stands}
use Rattle.booking.specs.History.{Check, Seen, Past}
use Rattle.booking.specs.IdleRule.{
  check,
  verdict_in,
  verdict,
  valid,
  erpm,
  expired,
  past_grace,
  fresh,
  joined,
  streak_at,
  streak,
  tally,
  settled,
  judged_at,
  judged,
}
use Rattle.booking.proofs.Lanes.{four, change-kept}

abbrev newest_of : List EscTelemetryUpdate → Option ℕ
newest_of [] = None
newest_of (u ∷ us) = Some u.observation.observed_at_ms

abbrev lane_from : List EscTelemetryUpdate → IdleLane
lane_from us = record { consecutive_samples = tally us; newest_ms = newest_of us }

abbrev pub lanes_of : (Lane → List EscTelemetryUpdate) → List IdleLane
lanes_of f = four (λ l. lane_from (f l))

-- a check that has given no verdict
abbrev check_at : Check → (Lane → List EscTelemetryUpdate) → EscIdleQualification
check_at k f = record { config = k.config; started_at_ms = k.start; lanes = lanes_of f; verdict = None }

expire-is : (c : EscIdleQualificationConfig) (now : ℕ) (us : List EscTelemetryUpdate) → expire_lane c.max_sample_age_ms now (lane_from us) ≡
    lane_from (fresh c now us)
unfolding expire_lane newest_expired
expire-is c now [] = refl
expire-is c now (u ∷ us) = go (expired c now u)
  where
    go : (b : Bool) → pick b clear_lane (lane_from (u ∷ us)) ≡ lane_from (pick b [] (u ∷ us))
    go true = refl
    go false = refl

count-is : (c : EscIdleQualificationConfig) (u : EscTelemetryUpdate) (us : List EscTelemetryUpdate)
    → count_lane c.min_erpm_div100 u.observation (lane_from us) ≡ lane_from (pick (ltb (erpm u) c.min_erpm_div100) [] (u ∷ us))
unfolding count_lane
count-is c u us = go (ltb (erpm u) c.min_erpm_div100)
  where
    more : min (min (length us) 255 + 1) 255 ≡ min (suc (length us)) 255
    more = omega arith

    go : (b : Bool)
        → pick b clear_lane (record { consecutive_samples = min (tally us + 1) 255; newest_ms = Some u.observation.observed_at_ms })
        ≡ lane_from (pick b [] (u ∷ us))
    go true = refl
    go false = rw more

and4 : (a b c d : Bool) → (a && (b && (c && (d && true)))) ≡ (a && b && c && d)
and4 false b c d = refl
and4 true false c d = refl
and4 true true false d = refl
and4 true true true false = refl
and4 true true true true = refl

-- a judgement, and what is left of the check
record Judged (k : Check) (f : Lane → List EscTelemetryUpdate) (v : EscIdleQualificationStatus) (j : EscIdleJudged) : Type 0 where
  status : j.status ≡ v
  config : j.idle.config ≡ k.config
  start : j.idle.started_at_ms ≡ k.start
  verdict : j.idle.verdict ≡ verdict_in (Some (Some v))
  lanes : verdict_in (Some (Some v)) ≡ None → j.idle.lanes ≡ lanes_of f

final : (k : Check) (f f' : Lane → List EscTelemetryUpdate) (v : EscIdleQualificationStatus) → verdict_in (Some (Some v)) ≡ Some v → Judged k f' v
    (decided (check_at k f) v)
final k f f' v e =
    record { status = refl; config = refl; start = refl; verdict = rw e; lanes = λ z. absurd (none-some v (sym z ∙ e)) }

-- every lane's streak, cleared where its newest has expired
abbrev freshened : Check → (Lane → List EscTelemetryUpdate) → ℕ → Lane → List EscTelemetryUpdate
freshened k f now l = fresh k.config now (f l)

abbrev enough : Check → (Lane → List EscTelemetryUpdate) → Lane → Bool
enough k g l = leb k.config.required_consecutive_samples (tally (g l))

abbrev timeout_of : (Lane → List EscTelemetryUpdate) → EscIdleQualificationStatus
timeout_of g = Failed (Timeout (tally (g Output1) ∷ tally (g Output2) ∷ tally (g Output3) ∷ tally (g Output4) ∷ []))

weigh : (k : Check) (g : Lane → List EscTelemetryUpdate) (a d : Bool)
    → Judged k g
    (pick a Qualified (pick d (timeout_of g) Pending))
    (pick a (decided (check_at k g) Qualified) (pick d (decided (check_at k g) (timeout_of g)) (saying (check_at k g) Pending)))
weigh k g true d = final k g g Qualified refl
weigh k g false true = final k g g (timeout_of g) refl
weigh k g false false = record { status = refl; config = refl; start = refl; verdict = refl; lanes = λ z. refl }

settle_is : (k : Check) (f : Lane → List EscTelemetryUpdate) (now : ℕ)
    → Judged k (freshened k f now) (settled k now (freshened k f now)) (weighed (fresh_at (check_at k f) now) now)
unfolding weighed expire_lanes every_enough
settle_is k f now =
    let g = freshened k f now in
    rw (
      expire-is k.config now (f Output1),
      expire-is k.config now (f Output2),
      expire-is k.config now (f Output3),
      expire-is k.config now (f Output4),
      and4 (enough k g Output1) (enough k g Output2) (enough k g Output3) (enough k g Output4),
    )
    (weigh k g (enough k g Output1 && enough k g Output2 && enough k g Output3 && enough k g Output4) (due k.start now k.config.timeout_ms))

valid-is : (c : EscIdleQualificationConfig) → valid_settings c ≡ valid c
unfolding valid_settings valid
valid-is c = refl

abbrev with_sample : Check → EscTelemetryUpdate → (Lane → List EscTelemetryUpdate) → Lane → List EscTelemetryUpdate
with_sample k u f l = joined k.config u l (f l)

sampled-is : (k : Check) (u : EscTelemetryUpdate) (f : Lane → List EscTelemetryUpdate) → sampled (check_at k f) u ≡ check_at k (with_sample k u f)
sampled-is k u f =
    rw (change-kept clear_lane lane_from f (count_lane k.config.min_erpm_div100 u.observation)
    (λ us. pick (ltb (erpm u) k.config.min_erpm_div100) [] (u ∷ us)) u.output.0 (count-is k.config u))

abbrev overspeed : EscTelemetryUpdate → EscIdleQualificationStatus
overspeed u = Failed (Overspeed u.output (erpm u))

status-valid : (k : Check) (q : EscIdleQualification) (f : Lane → List EscTelemetryUpdate) (now : ℕ) → valid_settings k.config ≡ true → q ≡ check_at k f
    → status_of q now ≡ weighed (fresh_at (check_at k f) now) now
unfolding status_of
status-valid k q f now ok e = ap (λ (z : EscIdleQualification). status_of z now) e ∙ rw ok

measured-is : (k : Check) (u : EscTelemetryUpdate) (f : Lane → List EscTelemetryUpdate) (now : ℕ) → valid_settings k.config ≡ true
    → Judged k (freshened k (with_sample k u f) now)
    (pick (ltb k.config.max_erpm_div100 (erpm u)) (overspeed u) (settled k now (freshened k (with_sample k u f) now)))
    (measured (check_at k f) u now)
unfolding measured
measured-is k u f now ok =
    rw (status-valid k (sampled (check_at k f) u) (with_sample k u f) now ok (sampled-is k u f)) (go (ltb k.config.max_erpm_div100 (erpm u)))
  where
    go : (b : Bool)
        → Judged k (freshened k (with_sample k u f) now)
        (pick b (overspeed u) (settled k now (freshened k (with_sample k u f) now)))
        (pick b (decided (check_at k f) (overspeed u)) (weighed (fresh_at (check_at k (with_sample k u f)) now) now))
    go true = final k f (freshened k (with_sample k u f) now) (overspeed u) refl
    go false = settle_is k (with_sample k u f) now

-- what the check is asked: its status, or a sample
abbrev pub asks : EscIdleQualification → Option EscTelemetryUpdate → ℕ → EscIdleJudged
asks q None now = status_of q now
asks q (Some u) now = observe_of q u now

asks-is : (k : Check) (f : Lane → List EscTelemetryUpdate) (x : Option EscTelemetryUpdate) (now : ℕ)
    → Judged k (λ l. streak_at k x now l (f l)) (pick (valid k.config) (judged_at k x now f) (Failed InvalidConfig)) (asks (check_at k f) x now)
unfolding status_of observe_of
asks-is k f None now = rw (← valid-is k.config) (go (valid_settings k.config))
  where
    go : (v : Bool)
        → Judged k (freshened k f now)
        (pick v (settled k now (freshened k f now)) (Failed InvalidConfig))
        (unless_standing (check_at k f) (weighed (fresh_at (check_at k f) now) now) (pick v None (Some (Failed InvalidConfig))))
    go true = settle_is k f now
    go false = final k f (freshened k f now) (Failed InvalidConfig) refl
asks-is k f (Some u) now = rw (← valid-is k.config) (go (valid_settings k.config) refl)
  where
    after : Bool → Lane → List EscTelemetryUpdate
    after d l = pick d (fresh k.config now (joined k.config u l (f l))) (f l)

    grace : valid_settings k.config ≡ true → (d : Bool)
        → Judged k (λ l. pick d (fresh k.config now (joined k.config u l (f l))) (f l))
        (pick d (pick (ltb k.config.max_erpm_div100 (erpm u)) (overspeed u) (settled k now (λ l. pick d (fresh k.config now (joined
        k.config u l (f l))) (f l)))) Pending)
        (pick d (measured (check_at k f) u now) (saying (check_at k f) Pending))
    grace ok true = measured-is k u f now ok
    grace ok false = record { status = refl; config = refl; start = refl; verdict = refl; lanes = λ z. refl }

    go : (v : Bool) → valid_settings k.config ≡ v
        → Judged k (λ l. streak_at k (Some u) now l (f l))
        (pick v (judged_at k (Some u) now f) (Failed InvalidConfig))
        (unless_standing (check_at k f) (pick (past_grace k now) (measured (check_at k f) u now) (saying (check_at k f) Pending))
        (pick v None (Some (Failed InvalidConfig))))
    go true ok = grace ok (past_grace k now)
    go false ok = final k f (λ l. streak_at k (Some u) now l (f l)) (Failed InvalidConfig) refl

-- over histories: the check that belongs to one
pub record Checked (h : Past) (q : EscIdleQualification) : Type 0 where
  pub settings : check h ≡ Some (record { config = q.config; start = q.started_at_ms })
  pub said : q.verdict ≡ verdict h
  pub lanes : verdict h ≡ None → q.lanes ≡ lanes_of (streak h)

abbrev pub IdleAt : Past → Option EscIdleQualification → Type 0
IdleAt h None = check h ≡ None
IdleAt h (Some q) = Checked h q

earliest-old : (x : Option EscIdleQualificationStatus) (v : EscIdleQualificationStatus) → earliest x (Some v) ≡ Some v
earliest-old None v = refl
earliest-old (Some u) v = refl

earliest-none : (x : Option EscIdleQualificationStatus) → earliest x None ≡ x
earliest-none None = refl
earliest-none (Some u) = refl

asks-ended : (q : EscIdleQualification) (v : EscIdleQualificationStatus) (x : Option EscTelemetryUpdate) (now : ℕ)
    → q.verdict ≡ Some v → asks q x now ≡ saying q v
asks-ended q v None now e = status-stands q now v (ap (standing q) e) ∙ decided-again q v e
asks-ended q v (Some u) now e = observe-stands q u now v (ap (standing q) e) ∙ decided-again q v e

module _ (h : Past) (q : EscIdleQualification) (i : Checked h q) (x : Option EscTelemetryUpdate) (now : ℕ) where
  abbrev k : Check
  k = record { config = q.config; start = q.started_at_ms }

  running-is : verdict h ≡ None → q ≡ check_at k (streak h)
  running-is v =
      let a = i.lanes v in
      let b = i.said ∙ v in
      λ j. record { config = q.config; started_at_ms = q.started_at_ms; lanes = a j; verdict = b j }

  found : verdict h ≡ None → Judged k (λ l. streak_at k x now l (streak h l)) (pick (valid q.config) (judged_at k x now (streak h)) (Failed
      InvalidConfig)) (asks q x now)
  found v =
      subst (λ (z : EscIdleQualification). Judged k (λ l. streak_at k x now l (streak h l)) (pick (valid q.config) (judged_at k x now (streak h))
      (Failed InvalidConfig)) (asks z x now))
      (sym (running-is v)) (asks-is k (streak h) x now)

  pub status-is : Some (asks q x now).status ≡ judged h x now
  unfolding judged
  status-is = go (verdict h) refl
    where
      go : (m : Option EscIdleQualificationStatus) → verdict h ≡ m → Some (asks q x now).status ≡ judged h x now
      go None v = ap Some (found v).status ∙ rw (i.settings, v)
      go (Some w) v = rw (asks-ended q w x now (i.said ∙ v), i.settings, v)

  pub asked : (e : Seen) → e.idle.check ≡ None → e.requests.delivered ≡ x → e.idle.status ≡ Some (Some (asks q x now).status) → e.now ≡ now
      → Checked (e ∷ h) (asks q x now).idle
  unfolding check verdict streak
  asked e c u s n = go (verdict h) refl
    where
      go : (m : Option EscIdleQualificationStatus) → verdict h ≡ m → Checked (e ∷ h) (asks q x now).idle
      go (Some w) v =
          rw (asks-ended q w x now (i.said ∙ v))
          (record {
            settings = rw c i.settings;
            said = rw (c, v, earliest-old (verdict_in e.idle.status) w) (i.said ∙ v);
            lanes = λ z. absurd (none-some w (sym (rw (c, v, earliest-old (verdict_in e.idle.status) w) at z)));
          })
      go None v =
          let r = found v in
          let t : (asks q x now).idle.verdict ≡ verdict_in (Some (Some (asks q x now).status)) =
          r.verdict ∙ ap (λ (y : EscIdleQualificationStatus). verdict_in (Some (Some y))) (sym r.status) in
          record {
            settings = rw (c, r.config, r.start) i.settings;
            said = rw (c, s, v, earliest-none (verdict_in (Some (Some (asks q x now).status)))) t;
            lanes = λ z.
                rw (c, u, s, n, i.settings)
                (r.lanes (ap (λ (y : EscIdleQualificationStatus). verdict_in (Some (Some y))) (sym r.status)
                ∙ (rw (c, s, v, earliest-none (verdict_in (Some (Some (asks q x now).status)))) at z)));
          }

  pub passed-by : (e : Seen) → e.idle.check ≡ None → e.idle.status ≡ None → Checked (e ∷ h) q
  unfolding check verdict streak
  passed-by e c s =
      record { settings = rw c i.settings; said = rw (c, s) i.said; lanes = λ z. rw (c, s, i.settings) (i.lanes (rw (c, s) at z)) }

-- what shows no status and no 0a
pub idle-same : (h : Past) (q : Option EscIdleQualification) (e : Seen) → e.idle.check ≡ None → e.idle.status ≡ None → IdleAt h q → IdleAt (e ∷ h) q
unfolding check
idle-same h None e c s i = rw c i
idle-same h (Some q) e c s i = passed-by h q i None 0 e c s

-- 0a
pub idle-new : (h : Past) (e : Seen) (k : Check) → e.idle.check ≡ Some k → IdleAt (e ∷ h) (Some (new_idle k.config k.start))
unfolding check verdict streak
idle-new h e k c = record { settings = rw c; said = rw c; lanes = λ z. rw c }

-- no check yet
pub idle-none : IdleAt [] None
unfolding check
idle-none = refl

-- a status where there is no check
pub idle-unasked : (h : Past) (e : Seen) → e.idle.check ≡ None → IdleAt h None → IdleAt (e ∷ h) None
unfolding check
idle-unasked h e c i = rw c i

pub unasked-is : (h : Past) (x : Option EscTelemetryUpdate) (now : ℕ) → IdleAt h None → None ≡ judged h x now
unfolding judged
unasked-is h x now i = rw i
