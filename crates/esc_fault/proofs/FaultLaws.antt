-- An armed craft never recovers.
use Rattle.std.proofs.Common.{◌≡◌, ℕ, true, false, Option, Some, None, refl}
use Rattle.esc_fault.specs.Fault.{quiet_window, quiet_enough, may_recover}
use Rattle.esc_fault.specs.declared.fault.Fault.{Fault}

never : (since : Option ℕ) (window now : ℕ) → quiet_enough since window now true ≡ false
never None window now = refl
never (Some since) window now = refl

pub recover-armed : (f : Fault) (quiet now : ℕ) → may_recover f quiet now true ≡ false
unfolding may_recover
recover-armed f quiet now = never f.quiet_since_ms (quiet_window quiet f.retries_without_frame) now
