-- The idle check's answers, from the samples delivered since the latest 0a (document 01, 'Idle check').
use Rattle.std.specs.Prelude.{ℕ, ◌+◌, ◌-◌, ◌^◌, min, Bool, true, false, not, ◌&&◌, List, [], ◌∷◌, eqb, leb, ltb, length}
use Rattle.std.specs.Prelude.{Option, None, Some, is_some}
use Rattle.base.specs.Choice.{pick}
use Rattle.base.specs.Due.{due}
use Rattle.esc_lanes.specs.Output.{lane_of, lane_number}
use Rattle.esc_lanes.specs.declared.output.Lane.{Lane}
use Rattle.esc_lanes.specs.declared.output.Lane.TheVariants.{Output1, Output2, Output3, Output4}
use Rattle.esc_lanes.specs.declared.request.EscTelemetryUpdate.{EscTelemetryUpdate}
use Rattle.esc_idle.specs.declared.idle_config.EscIdleQualificationConfig.{EscIdleQualificationConfig}
use Rattle.esc_idle.specs.declared.idle_verdict.EscIdleQualificationFailure.TheVariants.{InvalidConfig, Overspeed, Timeout}
use Rattle.esc_idle.specs.declared.idle_verdict.EscIdleQualificationStatus.{EscIdleQualificationStatus}
use Rattle.esc_idle.specs.declared.idle_verdict.EscIdleQualificationStatus.TheVariants.{Pending, Qualified, Failed}
use Rattle.base.specs.Maybe.{or_else, earliest, only_if}
use Rattle.booking.specs.History.{Check, Past}

-- 0a replaces the check
unfoldable pub check : Past → Option Check
check [] = None
check (e ∷ h) = or_else e.idle.check (check h)

-- a verdict is any status 02 to 05
abbrev pub verdict_in : Option (Option EscIdleQualificationStatus) → Option EscIdleQualificationStatus
verdict_in None = None
verdict_in (Some None) = None
verdict_in (Some (Some Pending)) = None
verdict_in (Some (Some Qualified)) = Some Qualified
verdict_in (Some (Some (Failed f))) = Some (Failed f)

-- the first verdict answered since the latest 0a; it stays
unfoldable pub verdict : Past → Option EscIdleQualificationStatus
verdict [] = None
verdict (e ∷ h) = only_if (not (is_some e.idle.check)) (earliest (verdict_in e.idle.status) (verdict h))

-- settings are valid when 0 < min < max, grace < timeout, and age and required are above 0
unfoldable pub valid : EscIdleQualificationConfig → Bool
valid c =
    ltb 0 c.min_erpm_div100
    && ltb c.min_erpm_div100 c.max_erpm_div100
    && ltb c.spinup_grace_ms c.timeout_ms
    && ltb 0 c.max_sample_age_ms
    && ltb 0 c.required_consecutive_samples

abbrev pub erpm : EscTelemetryUpdate → ℕ
erpm u = u.observation.sample.erpm_div100

-- expired: Due(its observed time, now, age + 1), the sum saturating at 2^32 − 1
abbrev pub expired : EscIdleQualificationConfig → ℕ → EscTelemetryUpdate → Bool
expired c now u = due u.observation.observed_at_ms now (min (c.max_sample_age_ms + 1) (2 ^ 32 - 1))

-- at a now without Due(start, now, grace) a sample is ignored
abbrev pub past_grace : Check → ℕ → Bool
past_grace k now = due k.start now k.config.spinup_grace_ms

-- a lane's streak is its counted samples since it was last cleared, newest first; a streak whose newest has expired is cleared
abbrev pub fresh : EscIdleQualificationConfig → ℕ → List EscTelemetryUpdate → List EscTelemetryUpdate
fresh c now [] = []
fresh c now (u ∷ us) = pick (expired c now u) [] (u ∷ us)

-- a sample below min clears its lane; another joins it
abbrev pub joined : EscIdleQualificationConfig → EscTelemetryUpdate → Lane → List EscTelemetryUpdate → List EscTelemetryUpdate
joined c u l us = pick (eqb (lane_of u.output) (lane_number l)) (pick (ltb (erpm u) c.min_erpm_div100) [] (u ∷ us)) us

-- a lane's streak after a 0b (no sample) or a delivered sample at now
abbrev pub streak_at : Check → Option EscTelemetryUpdate → ℕ → Lane → List EscTelemetryUpdate → List EscTelemetryUpdate
streak_at k None now l us = fresh k.config now us
streak_at k (Some u) now l us = pick (past_grace k now) (fresh k.config now (joined k.config u l us)) us

abbrev pub streak_with : Option Check → Option EscTelemetryUpdate → Bool → ℕ → Lane → List EscTelemetryUpdate → List EscTelemetryUpdate
streak_with None u asked now l us = us
streak_with (Some k) u false now l us = us
streak_with (Some k) u true now l us = streak_at k u now l us

unfoldable pub streak : Past → Lane → List EscTelemetryUpdate
streak [] l = []
streak (e ∷ h) l =
    pick (is_some e.idle.check) [] (streak_with (check h) e.requests.delivered (is_some e.idle.status) e.now l (streak h l))

-- the count, saturating at 255
abbrev pub tally : List EscTelemetryUpdate → ℕ
tally us = min (length us) 255

abbrev pub verdict_on : Check → ℕ → ℕ → ℕ → ℕ → ℕ → EscIdleQualificationStatus
verdict_on k now a b c d =
    pick
    (leb k.config.required_consecutive_samples a
    && leb k.config.required_consecutive_samples b
    && leb k.config.required_consecutive_samples c
    && leb k.config.required_consecutive_samples d)
    Qualified
    (pick (due k.start now k.config.timeout_ms) (Failed (Timeout (a ∷ b ∷ c ∷ d ∷ []))) Pending)

-- Qualified (every count at least required) is tested before Due(start, now, timeout)
abbrev pub settled : Check → ℕ → (Lane → List EscTelemetryUpdate) → EscIdleQualificationStatus
settled k now f = verdict_on k now (tally (f Output1)) (tally (f Output2)) (tally (f Output3)) (tally (f Output4))

-- above max fails
abbrev pub judged_at : Check → Option EscTelemetryUpdate → ℕ → (Lane → List EscTelemetryUpdate) → EscIdleQualificationStatus
judged_at k None now f = settled k now (λ l. streak_at k None now l (f l))
judged_at k (Some u) now f =
    pick (past_grace k now)
    (pick (ltb k.config.max_erpm_div100 (erpm u))
    (Failed (Overspeed u.output (erpm u)))
    (settled k now (λ l. streak_at k (Some u) now l (f l))))
    Pending

-- invalid settings fail first
abbrev pub judged_by : Option Check → Option EscIdleQualificationStatus → Option EscTelemetryUpdate → ℕ → (Lane → List EscTelemetryUpdate)
    → Option EscIdleQualificationStatus
judged_by None v u now f = None
judged_by (Some k) (Some v) u now f = Some v
judged_by (Some k) None u now f = Some (pick (valid k.config) (judged_at k u now f) (Failed InvalidConfig))

-- what the check says to a delivered sample, or to a 0b
unfoldable pub judged : Past → Option EscTelemetryUpdate → ℕ → Option EscIdleQualificationStatus
judged h u now = judged_by (check h) (verdict h) u now (streak h)
