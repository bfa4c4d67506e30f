-- The craft of two words: the motors of lanes 0 to 3, a digit each, and the number of magnets in decimal digits.
use Rattle.std.specs.Prelude.{ℕ, ◌+◌, ◌*◌, ◌-◌, ◌==◌, Bool, ◌&&◌, List, Option, Some, None, length, map, nat_le, nat_lt}
use Rattle.std.specs.List.{fold}
use Rattle.base.specs.Choice.{pick}
use Rattle.base.specs.Reply.{Reply, accepted, refused}
use Rattle.airframe.specs.Speed.{read_magnets}
use Rattle.airframe.specs.BoardMap.{read_map}
use Rattle.airframe.specs.declared.board_map.BoardMap.{BoardMap}
use Rattle.flightsheet.specs.declared.craft.Craft.{Craft}

abbrev pub is_decimal : ℕ → Bool
is_decimal c = nat_le 48 c && nat_le c 57

-- a number with a digit more; none of another character, or above 255
unfoldable pub with_digit : Option ℕ → ℕ → Option ℕ
with_digit None c = None
with_digit (Some n) c = pick (is_decimal c && nat_lt (n * 10 + (c - 48)) 256) (Some (n * 10 + (c - 48))) None

-- the number of a word; none of the empty one
unfoldable pub number_of_word : List ℕ → Option ℕ
number_of_word text = pick (length text == 0) None (fold with_digit (Some 0) text)

abbrev pub magnets_read : Option ℕ → Reply ℕ
magnets_read None = refused 11
magnets_read (Some n) = read_magnets n

-- 11 where the word is no number up to 255, or is zero or odd
abbrev pub magnets_of_word : List ℕ → Reply ℕ
magnets_of_word text = magnets_read (number_of_word text)

-- a motor's number for each digit
abbrev pub map_of_word : List ℕ → Reply BoardMap
map_of_word text = read_map (map (λ c. c - 48) text)

abbrev pub craft_with : Reply ℕ → Reply BoardMap → Reply Craft
craft_with (refused n) m = refused n
craft_with (accepted n) (refused k) = refused k
craft_with (accepted n) (accepted m) = accepted (record { map = m; magnets = n })

-- the lowest number that fits: 5 where the map has not four digits, 11 for the magnets, 12 for the map's motors
unfoldable pub craft_of : List ℕ → List ℕ → Reply Craft
craft_of motors magnets = pick (length motors == 4) (craft_with (magnets_of_word magnets) (map_of_word motors)) (refused 5)
