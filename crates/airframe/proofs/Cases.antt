-- Maps that are refused, and document 01's 'Cases for the proved table' that speak of the speed: of the rules themselves, by computation.
use Rattle.std.proofs.Common.{◌≡◌, ℕ, [], ◌∷◌, refl}
use Rattle.base.specs.Reply.{accepted, refused}
use Rattle.airframe.specs.Once.{each_once}
use Rattle.airframe.specs.BoardMap.{read_map}
use Rattle.airframe.specs.Speed.{speed_of}

pub record MapCases : Type 0 where
  -- a motor twice, or one that no airframe has: 12; not four bytes: 5, whatever they are
  pub motor-twice : read_map (1 ∷ 2 ∷ 3 ∷ 3 ∷ []) ≡ refused 12
  pub motor-five : read_map (1 ∷ 2 ∷ 5 ∷ 4 ∷ []) ≡ refused 12
  pub three-bytes : read_map (1 ∷ 1 ∷ 1 ∷ []) ≡ refused 5

pub map_cases : MapCases
unfolding each_once read_map
map_cases = record { motor-twice = refl; motor-five = refl; three-bytes = refl }

pub record SpeedCases : Type 0 where
  -- speed (70, 14) is 1000; 13 magnets give 11
  pub speed-70-14 : speed_of 70 14 ≡ accepted 1000
  pub magnets-13 : (erpm : ℕ) → speed_of erpm 13 ≡ refused 11

pub speed-cases : SpeedCases
unfolding speed_of
speed-cases = record { speed-70-14 = refl; magnets-13 = λ erpm. refl }
