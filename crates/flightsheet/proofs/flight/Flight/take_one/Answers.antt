-- Any character but LF goes on with the line.
use Rattle.std.proofs.Common.{refl}
use Rattle.flightsheet.proofs.FlightLaws.{flown-more}
use Rattle.flightsheet.proofs.flight.Flight.take_one.Goals as goal

pub returns : goal.returns
returns g c craft text at_first w = flown-more w _ c.args.character c.if-character-eq-LINE_END.false c.take.ensures refl
