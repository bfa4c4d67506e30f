-- The characters so far are taken.
use Rattle.std.proofs.Common.{List, ℕ, Option, ◌++◌, take}
use Rattle.flightsheet.specs.Flight.{Flown}
use Rattle.flightsheet.specs.declared.craft.Craft.{Craft}
use Rattle.flightsheet.proofs.flight.Flight.take.Given as goal

abbrev pub invariant-loop-character : goal.invariant-loop-character
invariant-loop-character g l =
    (craft : Craft) (text : List ℕ) (at_first : Option (List ℕ)) → Flown craft l.fn.self text at_first (g.W.Write.contents l.fn.to)
    → Flown craft l.self (text ++ take l.character-index l.characters) at_first (g.W.Write.contents l.to)
