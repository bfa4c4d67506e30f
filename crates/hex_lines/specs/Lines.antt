-- The lines of a text (document 01, 'Records').
use Rattle.std.specs.Prelude.{ℕ, List, [], ◌∷◌, ◌++◌, eqb, length}
use Rattle.base.specs.Choice.{pick}
use Rattle.hex_lines.specs.Line.{line_end}

-- the lines of a text, where `line` is what came before it of the first: a line is ended by LF or by the end of input; a
-- last LF opens no further line, and empty input holds none
unfoldable pub lines_from : List ℕ → List ℕ → List (List ℕ)
lines_from line [] = pick (eqb (length line) 0) [] (line ∷ [])
lines_from line (c ∷ text) = pick (eqb c line_end) (line ∷ lines_from [] text) (lines_from (line ++ c ∷ []) text)

abbrev pub lines_of : List ℕ → List (List ℕ)
lines_of text = lines_from [] text
