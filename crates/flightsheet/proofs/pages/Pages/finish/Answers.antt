-- The page that is left is written.
use Rattle.std.proofs.Common.{◌≡◌, ◌∙◌, true, sym, length}
use mathlib.Core.Bool.{true≢false}
use Rattle.std.specs.Prelude.{◌==◌}
use Rattle.flightsheet.proofs.PagesLaws.{sheet-filed, sheet-left}
use Rattle.flightsheet.proofs.pages.Pages.finish.Goals as goal
use Rattle.flightsheet.proofs.pages.Pages.finish.Goals.{else-is_empty-via-then-is_empty+else-not-self, else-is_empty-via-else-is_empty}

pub returns-then-not-self : goal.returns-then-not-self
returns-then-not-self g c craft taken at_first f = sheet-filed f (sym c.is_empty.ensures ∙ c.if-is_empty.true) c.if-not-self.true

pub returns : goal.returns
returns g c craft taken at_first f =
    let left : (length c.args.self.now.held == 0) ≡ true → c.args.self.now.first ≡ true =
    elim c.else-is_empty.branch [
      | else-is_empty-via-then-is_empty+else-not-self w ↦ λ none. w.if-not-self.false
      | else-is_empty-via-else-is_empty w ↦ λ none. absurd (true≢false (sym none ∙ sym c.is_empty.ensures ∙ w.if-is_empty.false))
    ] in
    sheet-left f _ left c.in_ok-write.ensures
