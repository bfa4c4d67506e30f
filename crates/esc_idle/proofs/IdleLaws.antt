-- A verdict that stands is the answer of each call, and stays as it is.
use Rattle.std.proofs.Common.{◌≡◌, ℕ, Some, ap}
use Rattle.esc_idle.specs.Idle.{saying, decided, unless_standing, standing, status_of, observe_of}
use Rattle.esc_lanes.specs.declared.request.EscTelemetryUpdate.{EscTelemetryUpdate}
use Rattle.esc_idle.specs.declared.idle_verdict.EscIdleQualificationStatus.{EscIdleQualificationStatus}
use Rattle.esc_idle.specs.declared.idle.EscIdleQualification.{EscIdleQualification}

module _ (q : EscIdleQualification) where
  pub decided-again : (s : EscIdleQualificationStatus) → q.verdict ≡ Some s → decided q s ≡ saying q s
  decided-again s e = rw (← e)

  pub status-stands : (now : ℕ) (s : EscIdleQualificationStatus) → standing q q.verdict ≡ Some s → status_of q now ≡ decided q s
  unfolding status_of
  status-stands now s e = ap (unless_standing q _) e

  pub observe-stands : (u : EscTelemetryUpdate) (now : ℕ) (s : EscIdleQualificationStatus) → standing q q.verdict ≡ Some s
      → observe_of q u now ≡ decided q s
  unfolding observe_of
  observe-stands u now s e = ap (unless_standing q _) e
