-- A wire just cut is clean, so a caller that cuts before each request needs the five assumptions only while a request is open.
use mathlib.Core.Path.{◌≡◌, refl}
use mathlib.Core.List.{List, [], ◌∷◌}
use mathlib.Core.Bool.{true, false≢true}
use Rattle.booking.specs.Wire.{OnWire, byte, cut, wire, latest}
use Rattle.attribution.specs.Marks.{Log, past}
use Rattle.attribution.specs.Tests.{always}
use Rattle.attribution.specs.Cut.{no_byte_since, a_cut}
use Rattle.attribution.specs.Cutting.{asking}
use Rattle.attribution.specs.Attributed.{AttributedByCuts}
use Rattle.attribution.proofs.Always.{now, before}
use Rattle.attribution.proofs.LawfulLog.{lawful-at}
use Rattle.attribution.proofs.Latest.{Clean}
use Rattle.attribution.proofs.Within.{CleanGrants}
use Rattle.attribution.proofs.CameFrom.{stands}

cut-clean : (w : List OnWire) → no_byte_since w ≡ true → Clean w
unfolding latest
cut-clean [] e = refl
cut-clean (cut ∷ w) e = refl
cut-clean (byte b ∷ w) e = absurd (false≢true e)

pub clean-grants : (l : Log) → always a_cut l ≡ true → CleanGrants l
clean-grants [] c = tt
clean-grants (e ∷ l) c =
    (λ g x. cut-clean (wire (past l)) (rw x at (now a_cut l e c)), clean-grants l (before a_cut l e c))

pub attributed-by-cuts : AttributedByCuts
attributed-by-cuts ms later e l u x d a =
    (stands asking (λ l i k. k) (e ∷ l) (lawful-at ms later (e ∷ l) x) a.wiring (clean-grants (e ∷ l) a.cuts)).came_from u d
