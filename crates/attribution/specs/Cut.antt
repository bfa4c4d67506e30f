-- A cut before each request.
use Rattle.std.specs.Prelude.{is_some}
use Rattle.std.specs.Prelude.{Bool, true, false, not, ◌||◌, List, [], ◌∷◌}
use Rattle.booking.specs.Wire.{OnWire, byte, cut, wire}
use Rattle.attribution.specs.Marks.{past}
use Rattle.attribution.specs.Tests.{EntryTest}

-- no byte since the latest cut or 00
abbrev pub no_byte_since : List OnWire → Bool
no_byte_since [] = true
no_byte_since (cut ∷ w) = true
no_byte_since (byte b ∷ w) = false

-- a cut: when a 02 is granted, no byte came in since the latest cut or opening
abbrev pub a_cut : EntryTest
a_cut l e = not (is_some e.seen.requests.granted) || no_byte_since (wire (past l))
