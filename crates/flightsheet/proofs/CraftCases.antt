-- The craft of two words, typed: of the rule itself, by computation.
use Rattle.std.proofs.Common.{◌≡◌, ◌∷◌, [], codes, refl}
use Rattle.base.specs.Reply.{accepted, refused}
use Rattle.airframe.specs.Once.{each_once}
use Rattle.airframe.specs.Speed.{read_magnets}
use Rattle.airframe.specs.BoardMap.{map_of, read_map}
use Rattle.flightsheet.specs.Craft.{with_digit, number_of_word, craft_of}

pub record CraftCases : Type 0 where
  pub good : craft_of (codes "4213") (codes "14") ≡ accepted (record { map = map_of (4 ∷ 2 ∷ 1 ∷ 3 ∷ []); magnets = 14 })
  pub zeros : craft_of (codes "4213") (codes "00254") ≡ accepted (record { map = map_of (4 ∷ 2 ∷ 1 ∷ 3 ∷ []); magnets = 254 })
  -- the map's length before the magnets, and these before its motors
  pub short : craft_of (codes "421") (codes "13") ≡ refused 5
  pub odd : craft_of (codes "4211") (codes "13") ≡ refused 11
  pub twice : craft_of (codes "4211") (codes "14") ≡ refused 12
  pub below-1 : craft_of (codes "0213") (codes "14") ≡ refused 12
  pub letter : craft_of (codes "421x") (codes "14") ≡ refused 12
  -- numbers that are none
  pub empty : craft_of (codes "4213") [] ≡ refused 11
  pub over : craft_of (codes "4213") (codes "256") ≡ refused 11
  pub far-over : craft_of (codes "4213") (codes "65550") ≡ refused 11
  pub sign : craft_of (codes "4213") (codes "+14") ≡ refused 11
  pub cut : craft_of (codes "4213") (codes "14.") ≡ refused 11

pub craft-cases : CraftCases
unfolding each_once read_magnets read_map with_digit number_of_word craft_of
craft-cases = record {
  good = refl;
  zeros = refl;
  short = refl;
  odd = refl;
  twice = refl;
  below-1 = refl;
  letter = refl;
  empty = refl;
  over = refl;
  far-over = refl;
  sign = refl;
  cut = refl;
}
