-- 07: recovery (document 01, 'Manager').
use Rattle.std.specs.Prelude.{ℕ, Bool, true, false}
use Rattle.base.specs.Choice.{pick}
use Rattle.esc_feedback.specs.Stats.{recoveries}
use Rattle.esc_feedback.specs.Pending.{none_open}
use Rattle.esc_fault.specs.Fault.{may_recover, retried}
use Rattle.esc_feedback.specs.Manager.{set_pending, set_fault, counting}
use Rattle.esc_feedback.specs.Wire.{cut_wire}
use Rattle.esc_feedback.specs.declared.manager.EscManager.{EscManager}
use Rattle.esc_feedback.specs.declared.answer.After.{After}

-- it ends the fault, adds one to retries (saturating) and cuts the wire; lane turn, sequence and last queueing time stay.
-- The stored samples, kept beside the manager, are dropped by `no_samples`
abbrev pub recovered_manager : EscManager → EscManager
recovered_manager m = counting recoveries (set_fault (retried m.fault) (set_pending none_open (cut_wire m)))

unfoldable pub try_recover : EscManager → ℕ → Bool → After Bool
try_recover m now armed =
    pick (may_recover m.fault m.config.recovery_quiet_ms now armed)
    (record { manager = recovered_manager m; answer = true })
    (record { manager = m; answer = false })
