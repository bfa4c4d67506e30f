-- The sheet of samples for a board map's bytes.
use Rattle.std.specs.Prelude.{ℕ, List}
use Rattle.base.specs.Reply.{Reply, accepted, refused}
use Rattle.airframe.specs.BoardMap.{read_map}
use Rattle.airframe.specs.declared.board_map.BoardMap.{BoardMap}
use Rattle.sheet.specs.Sheet.{sheet_reply, sheet_output}
use Rattle.c_calls.specs.BoardMap.{together}

-- how much is written, or the lowest number that fits: 5, 6, 9 and 11 of the sheet, 5 and 12 of the map
abbrev pub map_sheet_reply : List ℕ → List ℕ → ℕ → ℕ → Reply ℕ
map_sheet_reply samples map magnets room = together (λ m n. n) (read_map map) (sheet_reply samples magnets room)

abbrev pub map_sheet_on : Reply BoardMap → List ℕ → ℕ → List ℕ → List ℕ
map_sheet_on (accepted map) samples magnets out = sheet_output samples map magnets out
map_sheet_on (refused n) samples magnets out = out

-- the lent output afterwards: the sheet from its first entry on, and the rest as found; all as found where it is refused
abbrev pub map_sheet_output : List ℕ → List ℕ → ℕ → List ℕ → List ℕ
map_sheet_output samples map magnets out = map_sheet_on (read_map map) samples magnets out
