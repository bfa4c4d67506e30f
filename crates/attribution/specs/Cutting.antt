-- A caller that cuts the wire before each request: the five assumptions are then asked only of bytes taken in while a request is open.
use Rattle.std.specs.Prelude.{is_some}
use Rattle.std.specs.Prelude.{◌≡◌, true}
use Rattle.booking.specs.Booking.{open_request}
use Rattle.attribution.specs.Marks.{Log, past}
use Rattle.attribution.specs.Tests.{always}
use Rattle.attribution.specs.Cut.{a_cut}
use Rattle.attribution.specs.Wiring.{Scope, Wiring}

-- while a request is open
abbrev pub asking : Scope
asking l = is_some (open_request (past l))

pub record Cutting (l : Log) : Type 0 where
  pub wiring : Wiring asking l
  pub cuts : always a_cut l ≡ true
