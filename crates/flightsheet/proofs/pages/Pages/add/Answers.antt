-- A sample is held, and where it makes the page full the page is written.
use Rattle.std.proofs.Common.{◌∙◌, sym, refl}
use Rattle.flightsheet.proofs.PagesLaws.{held-room, filed-more, filed-page}
use Rattle.flightsheet.proofs.pages.Pages.add.Goals as goal

pub returns-then-not-is_full : goal.returns-then-not-is_full
returns-then-not-is_full g c craft taken at_first f =
    let held = c.hold.ensures (held-room f) in
    filed-more f c.args.sample.now c.told-sample c.hold.new.self held _ refl refl refl refl (sym c.is_full.ensures ∙ c.if-not-is_full.true)

pub returns : goal.returns
returns g c craft taken at_first f =
    let held = c.hold.ensures (held-room f) in
    filed-page f c.args.sample.now c.told-sample c.hold.new.self held _ _ refl c.clear.ensures refl refl
    (sym c.is_full.ensures ∙ c.if-not-is_full.false) c.in_ok-write.ensures
