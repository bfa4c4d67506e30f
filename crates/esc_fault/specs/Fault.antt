-- The fault, its quiet time and its retries (document 01, 'Manager').
use Rattle.std.specs.Prelude.{ℕ, ◌-◌, ◌*◌, ◌^◌, min, max, Bool, false, not, ◌&&◌, leb, Option, Some, None}
use Rattle.base.specs.Saturated.{saturated}
use Rattle.esc_fault.specs.declared.fault.Fault.{Fault}

abbrev pub fault_of : Option ℕ → ℕ → Fault
fault_of quiet_since retries = record { quiet_since_ms = quiet_since; retries_without_frame = retries }

abbrev pub no_fault : Fault
no_fault = fault_of None 0

-- while faulted, what is heard moves the quiet start later, never earlier
abbrev pub quiet_moved : Option ℕ → ℕ → Option ℕ
quiet_moved None at = None
quiet_moved (Some since) at = Some (max since at)

abbrev pub after_hearing : Fault → ℕ → Fault
after_hearing f at = fault_of (quiet_moved f.quiet_since_ms at) f.retries_without_frame

-- a timeout sets faulted and starts the quiet time at its T
abbrev pub timed_out_at : Fault → ℕ → Fault
timed_out_at f now = fault_of (Some now) f.retries_without_frame

-- quiet × 2^min(retries, 3)
unfoldable pub quiet_window : ℕ → ℕ → ℕ
quiet_window quiet retries = quiet * 2 ^ min retries 3

-- recovery needs faulted, disarmed, and now minus quiet start (0 if negative) at least the window
abbrev pub quiet_enough : Option ℕ → ℕ → ℕ → Bool → Bool
quiet_enough None window now armed = false
quiet_enough (Some since) window now armed = not armed && leb window (now - since)

unfoldable pub may_recover : Fault → ℕ → ℕ → Bool → Bool
may_recover f quiet now armed = quiet_enough f.quiet_since_ms (quiet_window quiet f.retries_without_frame) now armed

-- a recovery ends the fault and adds one to retries (saturating)
abbrev pub retried : Fault → Fault
retried f = fault_of None (saturated f.retries_without_frame)

-- a delivered sample clears retries
abbrev pub retries_cleared : Fault → Fault
retries_cleared f = fault_of f.quiet_since_ms 0
