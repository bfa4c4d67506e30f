-- Pieces of text, one behind the other: the rows of a page, the pages of a sheet.
use Rattle.std.specs.Prelude.{ℕ, List}
use Rattle.std.specs.List.{flat_map, range_with_len}

-- the first so many pieces
abbrev pub first_pieces : (ℕ → List ℕ) → ℕ → List ℕ
first_pieces piece n = flat_map piece (range_with_len 0 n)
