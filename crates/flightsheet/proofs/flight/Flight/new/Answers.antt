-- No character is taken, and no sample.
use Rattle.flightsheet.proofs.FlightLaws.{flown-none}
use Rattle.flightsheet.proofs.flight.Flight.new.Goals as goal

pub returns : goal.returns
returns c now = flown-none _ _ now c.new-2.ensures (c.new.ensures now)
