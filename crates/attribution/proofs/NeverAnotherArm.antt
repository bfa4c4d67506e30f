-- The cut puts the ten bytes of a frame after the 02 of the latest request, and each byte since is noise or of that request.
use mathlib.Core.Path.{◌∙◌, ap}
use mathlib.Core.List.{◌∷◌}
use Prim.Native.Nat.{ℕ}
use lib.ListN.{length}
use Rattle.blheli_telemetry.specs.Frame.{telemetry_of}
use Rattle.esc_lanes.specs.declared.request.EscTelemetryUpdate.{EscTelemetryUpdate}
use Rattle.attribution.specs.Marks.{Log, past, since_in}
use Rattle.attribution.specs.Since.{taken_since, all}
use Rattle.attribution.specs.Pace.{ticks}
use Rattle.attribution.specs.NeverAnotherArm.{no_other, NoOtherArm, NeverAnotherArm}
use Rattle.attribution.proofs.LawfulLog.{lawful-at}
use Rattle.attribution.proofs.Since.{each-middle}
use Rattle.attribution.proofs.Within.{Within, within}
use Rattle.attribution.proofs.Delivery.{Delivered, booked-by-rule}
use Rattle.attribution.proofs.ByCuts.{clean-grants}
use Rattle.attribution.proofs.Wide.{wide_at}
use Rattle.attribution.proofs.Pace.{Paced}
use Rattle.attribution.proofs.PaceSteps.{paced}

no-other-arm : (P : ℕ) (l : Log) (u : EscTelemetryUpdate) → Delivered l (past l) u → Within (taken_since l) (past l) → Paced P l (since_in l)
    → NoOtherArm l u
no-other-arm P l u d w p =
    let q = d.request in
    let r = w.frame d.frame d.latest in
    let each-own = p.own (length q.earlier) (ap length q.newest) in
    record {
      earlier = q.earlier;
      latest = q.newest;
      ten = r.ten;
      row = r.row;
      own = each-middle (no_other (length q.earlier)) r.row.before (all r.ten) r.row.after (rw r.row.place at each-own);
      says = d.says ∙ ap telemetry_of r.bytes;
      when = r.when ∙ d.when;
    }

pub never-another-arm : NeverAnotherArm
never-another-arm P ms b later e l u x d a =
    let i = lawful-at ms later (e ∷ l) x in
    no-other-arm P (e ∷ l) u ((booked-by-rule (e ∷ l) i).delivers u d) (within (e ∷ l) i (clean-grants (e ∷ l) a.cut))
    (paced P (e ∷ l) i (record { pace = a; wide = wide_at ticks ms later (e ∷ l) b x }))
