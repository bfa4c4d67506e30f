-- A session fed in chunks of any size: one character at a time, and what is kept between two of them.
use Rattle.std.specs.Prelude.{ℕ, suc, ◌-◌, List, [], ◌∷◌, ◌++◌, eqb, leb, length, take}
use Rattle.base.specs.Choice.{pick}
use Rattle.base.specs.BigEndian.{overwrite}
use Rattle.esc_unit.specs.Unit.{never_opened}
use Rattle.esc_unit.specs.declared.unit.Unit.{Unit}
use Rattle.hex_lines.specs.Line.{line_end, most_held}
use Rattle.unit_text.specs.Session.{unit_after, line_text}

-- the unit, and the start of the line that is not ended. 59 characters of it say as much as all: such a line is too wide
pub record Streamed : Type 0 where
  pub unit : Unit
  pub line : List ℕ

abbrev pub at_start : Streamed
at_start = record { unit = never_opened; line = [] }

-- after one character, and what is printed at it
unfoldable pub after_one : Streamed → ℕ → Streamed
after_one s c =
    pick (eqb c line_end)
    (record { unit = unit_after s.unit s.line; line = [] })
    (record { unit = s.unit; line = take most_held (s.line ++ c ∷ []) })

unfoldable pub printed_at : Streamed → ℕ → List ℕ
printed_at s c = pick (eqb c line_end) (line_text s.unit s.line) []

-- after many characters, and what is printed at them
unfoldable pub after : Streamed → List ℕ → Streamed
after s [] = s
after s (c ∷ text) = after (after_one s c) text

unfoldable pub printed : Streamed → List ℕ → List ℕ
printed s [] = []
printed s (c ∷ text) = printed_at s c ++ printed (after_one s c) text

-- what is printed at the end of input: the answer to the line that it ends, if there is one
unfoldable pub printed_at_end : Streamed → List ℕ
printed_at_end s = pick (eqb (length s.line) 0) [] (line_text s.unit s.line)

-- as much as any printed line takes
abbrev pub longest_line : ℕ
longest_line = 87

-- how much of a chunk is taken: it goes on as long as the room that is left holds any printed line
unfoldable pub taken : Streamed → ℕ → List ℕ → ℕ
taken s room [] = 0
taken s room (c ∷ text) = pick (leb longest_line room) (suc (taken (after_one s c) (room - length (printed_at s c)) text)) 0

-- what a chunk leaves: the stream after what was taken of it, how much that was, and how much was written
pub record Taken : Type 0 where
  pub stream : Streamed
  pub used : ℕ
  pub written : ℕ

abbrev taken_of : Streamed → List ℕ → Taken
taken_of s text = record { stream = after s text; used = length text; written = length (printed s text) }

abbrev pub taken_text : Streamed → List ℕ → ℕ → List ℕ
taken_text s chunk room = take (taken s room chunk) chunk

unfoldable pub feed_of : Streamed → List ℕ → ℕ → Taken
feed_of s chunk room = taken_of s (taken_text s chunk room)

unfoldable pub fed_output : Streamed → List ℕ → List ℕ → List ℕ
fed_output s chunk out = overwrite 0 (printed s (taken_text s chunk (length out))) out
