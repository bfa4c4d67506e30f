-- The last line is ended where one is begun, and then the sheet is.
use Rattle.std.proofs.Common.{◌∙◌, sym}
use Rattle.flightsheet.proofs.FlightLaws.{flight-whole, flight-last}
use Rattle.flightsheet.proofs.flight.Flight.finish.Goals as goal
use Rattle.flightsheet.proofs.flight.Flight.finish.Goals.{then-is_begun+in_ok-end_line, else-is_begun}

pub returns : goal.returns
returns g c craft text at_first w = elim c.if-is_begun.branch [
  | then-is_begun+in_ok-end_line b ↦
      let ended = b.in_ok-end_line.ensures.flown craft text at_first w in
      let begun = sym c.is_begun.ensures ∙ b.if-is_begun.true in
      flight-last begun w ended b.in_ok-end_line.ensures.ended _ (c.in_ok-finish.ensures craft ended.taken at_first (rw (b.self-is, b.to-is) ended.filed))
  | else-is_begun b ↦
      let none = sym c.is_begun.ensures ∙ b.if-is_begun.false in
      flight-whole w none _ (c.in_ok-finish.ensures craft w.taken at_first (rw (b.self-is, b.to-is) w.filed))
]
