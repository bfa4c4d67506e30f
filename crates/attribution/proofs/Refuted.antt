-- A sample whose request did not make an ESC send ten bytes did not come from it.
use Rattle.std.specs.Prelude.{is_some}
use mathlib.Core.Path.{◌≡◌}
use mathlib.Core.Bool.{Bool, true, false}
use mathlib.Core.List.{List, [], ◌∷◌}
use Prim.Native.Nat.{ℕ}
use native.Mathlib.Omega.{arith}
use lib.Dec.{eqb}
use lib.ListN.{length, length-append}
use borrow.Author.Tests.{eq-eqb}
use Rattle.esc_lanes.specs.declared.request.EscActuatorRequest.{EscActuatorRequest}
use Rattle.esc_lanes.specs.declared.request.EscTelemetryUpdate.{EscTelemetryUpdate}
use Rattle.attribution.specs.Marks.{Marked, Log}
use Rattle.attribution.specs.Origin.{requests, sent_by}
use Rattle.attribution.specs.Attributed.{CameFrom}
use Rattle.attribution.proofs.Delivery.{delivered_in}
use Rattle.attribution.proofs.Lists.{rule_log}
use Rattle.attribution.proofs.Newest.{Refuted, refuted-by}

-- how many bytes came in that the latest request made an ESC send
abbrev own_by : List EscActuatorRequest → Log → ℕ
own_by [] l = 0
own_by (q ∷ qs) l = length (sent_by (length qs) l)

abbrev pub ten_sent : Log → Bool
ten_sent l = eqb (own_by (requests l) l) 10

came-ten : (l : Log) (u : EscTelemetryUpdate) → CameFrom l u → ten_sent l ≡ true
came-ten l u c =
    let f = c.frame in
    eq-eqb (own_by (requests l) l) 10 (rw (c.latest, f.sent, length-append f.nine (f.tenth ∷ [])) (omega (arith, f.count)))

pub not-from : (ms : List Marked) → is_some (delivered_in (rule_log ms)) ≡ true → ten_sent (rule_log ms) ≡ false → Refuted CameFrom ms
not-from = refuted-by CameFrom ten_sent came-ten
