-- One lane of the idle check, and the passes over all lanes (document 01, 'Idle check').
use Rattle.std.specs.Prelude.{ℕ, ◌+◌, min, Bool, false, List, map, leb, ltb, Option, Some, None}
use Rattle.std.specs.List.{list_all}
use Rattle.base.specs.Choice.{pick}
use Rattle.base.specs.Saturated.{saturated}
use Rattle.base.specs.Due.{due}
use Rattle.esc_lanes.specs.declared.request.EscTelemetryObservation.{EscTelemetryObservation}
use Rattle.esc_idle.specs.declared.idle_lane.IdleLane.{IdleLane}

-- a lane with nothing counted
abbrev pub clear_lane : IdleLane
clear_lane = record { consecutive_samples = 0; newest_ms = None }

-- one more, saturating at 255
abbrev pub count_up : ℕ → ℕ
count_up count = min (count + 1) 255

-- below min clears the lane; else its count rises, and the sample is its newest
unfoldable pub count_lane : ℕ → EscTelemetryObservation → IdleLane → IdleLane
count_lane least o l =
    pick (ltb o.sample.erpm_div100 least)
    clear_lane
    (record { consecutive_samples = count_up l.consecutive_samples; newest_ms = Some o.observed_at_ms })

-- a newest has expired: Due(its observed time, now, age + 1), the sum saturating at 2^32 − 1
unfoldable pub newest_expired : ℕ → ℕ → Option ℕ → Bool
newest_expired age now None = false
newest_expired age now (Some observed) = due observed now (saturated age)

-- a lane whose newest has expired is cleared
unfoldable pub expire_lane : ℕ → ℕ → IdleLane → IdleLane
expire_lane age now l = pick (newest_expired age now l.newest_ms) clear_lane l

-- and so with every lane
unfoldable pub expire_lanes : ℕ → ℕ → List IdleLane → List IdleLane
expire_lanes age now ls = map (expire_lane age now) ls

-- a lane's count is at least required
abbrev pub enough : ℕ → IdleLane → Bool
enough required l = leb required l.consecutive_samples

-- every count is at least required
unfoldable pub every_enough : ℕ → List IdleLane → Bool
every_enough required ls = list_all (enough required) ls
