-- The lowest number that fits of a sheet and a board map's bytes: of the rule itself, by computation.
use Rattle.std.proofs.Common.{◌≡◌, ℕ, List, [], ◌∷◌, refl}
use Rattle.base.specs.Reply.{accepted, refused}
use Rattle.airframe.specs.Once.{each_once}
use Rattle.airframe.specs.Speed.{read_magnets}
use Rattle.airframe.specs.BoardMap.{read_map}
use Rattle.lent_samples.specs.Samples.{read_samples}
use Rattle.sheet.specs.Sheet.{pages_for, sheet_reply}
use Rattle.c_calls.specs.Sheet.{map_sheet_reply}

-- motor 1 on each lane
abbrev one_motor : List ℕ
one_motor = 1 ∷ 1 ∷ 1 ∷ 1 ∷ []

pub record SheetCases : Type 0 where
  pub short-map : map_sheet_reply [] (1 ∷ 1 ∷ 1 ∷ []) 13 0 ≡ refused 5
  pub room : map_sheet_reply [] one_motor 13 2213 ≡ refused 9
  pub magnets : map_sheet_reply [] one_motor 13 2214 ≡ refused 11
  pub map : map_sheet_reply [] one_motor 14 2214 ≡ refused 12
  pub none : map_sheet_reply [] (4 ∷ 2 ∷ 1 ∷ 3 ∷ []) 14 2214 ≡ accepted 2214

pub sheet-cases : SheetCases
unfolding each_once read_map read_magnets read_samples pages_for sheet_reply
sheet-cases = record { short-map = refl; room = refl; magnets = refl; map = refl; none = refl }
