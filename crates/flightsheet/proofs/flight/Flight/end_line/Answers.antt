-- The line's sample is filed, if it tells one.
use Rattle.std.proofs.Common.{◌++◌, sym, ap, refl, subst}
use Rattle.answer_lines.specs.declared.told.Told.{Told}
use Rattle.flightsheet.specs.Pages.{Filed}
use Rattle.flightsheet.specs.Flight.{sample_told}
use Rattle.flightsheet.proofs.FlightLaws.{flown-ended, flown-passed}
use Rattle.flightsheet.proofs.flight.Flight.end_line.Goals as goal

pub returns-in_ok-add-in-Sample-clause-flown : goal.returns-in_ok-add-in-Sample-clause-flown
returns-in_ok-add-in-Sample-clause-flown g c craft text at_first w =
    let after = g.W.Write.contents c.add.new.to in
    let filed = c.in_ok-add-in-Sample.ensures craft w.taken at_first w.filed in
    flown-ended w _ after c.end.result c.end.ensures.value c.end.ensures.after
    (subst (λ (t : Told). Filed craft c.add.new.self (w.taken ++ sample_told t) at_first after) (sym c.in-Sample.is) filed)

pub returns-in-Other-clause-flown : goal.returns-in-Other-clause-flown
returns-in-Other-clause-flown g c craft text at_first w =
    flown-passed w _ c.end.result c.end.ensures.value c.end.ensures.after (ap sample_told c.in-Other.is) refl

pub returns-in-NoAnswer-clause-flown : goal.returns-in-NoAnswer-clause-flown
returns-in-NoAnswer-clause-flown g c craft text at_first w =
    flown-passed w _ c.end.result c.end.ensures.value c.end.ensures.after (ap sample_told c.in-NoAnswer.is) refl
