-- The idle check's calls, each as the whole check that it leaves and its answer (document 01, 'Idle check').
use Rattle.std.specs.Prelude.{ℕ, List, map, ltb, get_or, set, replicate, Option, Some, None}
use Rattle.base.specs.Choice.{pick}
use Rattle.base.specs.Due.{due}
use Rattle.esc_lanes.specs.Output.{lane_of}
use Rattle.esc_idle.specs.IdleConfig.{valid_settings}
use Rattle.esc_idle.specs.IdleLane.{clear_lane, count_lane, expire_lanes, every_enough}
use Rattle.esc_lanes.specs.declared.request.EscTelemetryUpdate.{EscTelemetryUpdate}
use Rattle.esc_idle.specs.declared.idle_config.EscIdleQualificationConfig.{EscIdleQualificationConfig}
use Rattle.esc_idle.specs.declared.idle_lane.IdleLane.{IdleLane}
use Rattle.esc_idle.specs.declared.idle_verdict.EscIdleQualificationFailure.{EscIdleQualificationFailure}
use Rattle.esc_idle.specs.declared.idle_verdict.EscIdleQualificationFailure.TheVariants.{InvalidConfig, Overspeed, Timeout}
use Rattle.esc_idle.specs.declared.idle_verdict.EscIdleQualificationStatus.{EscIdleQualificationStatus}
use Rattle.esc_idle.specs.declared.idle_verdict.EscIdleQualificationStatus.TheVariants.{Pending, Qualified, Failed}
use Rattle.esc_idle.specs.declared.idle.EscIdleQualification.{EscIdleQualification}
use Rattle.esc_idle.specs.declared.idle.EscIdleJudged.{EscIdleJudged}

-- a new check: no sample counted, no verdict
abbrev pub new_idle : EscIdleQualificationConfig → ℕ → EscIdleQualification
new_idle c start = record { config = c; started_at_ms = start; lanes = replicate 4 clear_lane; verdict = None }

-- the check with other lanes
abbrev pub with_lanes : EscIdleQualification → List IdleLane → EscIdleQualification
with_lanes q ls = record q { lanes = ls }

-- an answer that changes nothing
abbrev pub saying : EscIdleQualification → EscIdleQualificationStatus → EscIdleJudged
saying q s = record { idle = q; status = s }

-- an answer that stays as the verdict
abbrev pub decided : EscIdleQualification → EscIdleQualificationStatus → EscIdleJudged
decided q s = saying (record q { verdict = Some s }) s

-- the verdict that stands whatever the call finds: a terminal one stays; invalid settings fail first
abbrev pub standing : EscIdleQualification → Option EscIdleQualificationStatus → Option EscIdleQualificationStatus
standing q (Some s) = Some s
standing q None = pick (valid_settings q.config) None (Some (Failed InvalidConfig))

-- it is the answer where there is one; else the answer is what the call finds
abbrev pub unless_standing : EscIdleQualification → EscIdleJudged → Option EscIdleQualificationStatus → EscIdleJudged
unless_standing q found (Some s) = decided q s
unless_standing q found None = found

-- the four counts
abbrev pub counts_of : List IdleLane → List ℕ
counts_of ls = map (λ (l : IdleLane). l.consecutive_samples) ls

-- those of a check
abbrev pub lane_counts : EscIdleQualification → List ℕ
lane_counts i = counts_of i.lanes

-- the timeout with the four
abbrev pub timeout_with : List IdleLane → EscIdleQualificationFailure
timeout_with ls = Timeout (counts_of ls)

-- every lane whose newest has expired is cleared
abbrev pub fresh_at : EscIdleQualification → ℕ → EscIdleQualification
fresh_at q now = with_lanes q (expire_lanes q.config.max_sample_age_ms now q.lanes)

-- Qualified (every count at least required) is tested before Due(start, now, timeout)
unfoldable pub weighed : EscIdleQualification → ℕ → EscIdleJudged
weighed q now =
    pick (every_enough q.config.required_consecutive_samples q.lanes)
    (decided q Qualified)
    (pick (due q.started_at_ms now q.config.timeout_ms)
    (decided q (Failed (timeout_with q.lanes)))
    (saying q Pending))

-- `status`: expired lanes are cleared, then the counts are weighed
unfoldable pub status_of : EscIdleQualification → ℕ → EscIdleJudged
status_of q now = unless_standing q (weighed (fresh_at q now) now) (standing q q.verdict)

-- the sample is counted in its lane
abbrev pub sampled : EscIdleQualification → EscTelemetryUpdate → EscIdleQualification
sampled q u =
    with_lanes q
    (set q.lanes (lane_of u.output)
    (count_lane q.config.min_erpm_div100 u.observation (get_or q.lanes (lane_of u.output) clear_lane)))

-- above max fails; else the sample is counted, and the answer is that of `status`
unfoldable pub measured : EscIdleQualification → EscTelemetryUpdate → ℕ → EscIdleJudged
measured q u now =
    pick (ltb q.config.max_erpm_div100 u.observation.sample.erpm_div100)
    (decided q (Failed (Overspeed u.output u.observation.sample.erpm_div100)))
    (status_of (sampled q u) now)

-- `observe`: at a now without Due(start, now, grace) the sample is ignored and the answer is pending
unfoldable pub observe_of : EscIdleQualification → EscTelemetryUpdate → ℕ → EscIdleJudged
observe_of q u now =
    unless_standing q
    (pick (due q.started_at_ms now q.config.spinup_grace_ms) (measured q u now) (saying q Pending))
    (standing q q.verdict)
