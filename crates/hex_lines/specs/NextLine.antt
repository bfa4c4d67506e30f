-- The next line at the front of a chunk.
use Rattle.std.specs.Prelude.{ℕ, ◌+◌, ◌<◌, ◌≡◌, List, [], ◌∷◌, ◌++◌, nat_eq, length, take, Option, Some, None, ◌≤◌, ◌*◌}
use Rattle.base.specs.Choice.{pick}
use Rattle.base.specs.Reply.{accepted}
use Rattle.hex_lines.specs.Line.{line_end, read_line, line_read, longest_record, most_held}
use Rattle.hex_lines.specs.declared.next_line.EndedLine.{EndedLine}

-- the characters before the first LF, or all
unfoldable pub first_line : List ℕ → List ℕ
first_line [] = []
first_line (c ∷ text) = pick (nat_eq c line_end) [] (c ∷ first_line text)

-- LF ends the first line within the chunk, and it is read as a whole: what was begun of it, and what the chunk has of it
pub record LineEnded (begun chunk : List ℕ) (line : EndedLine) : Type 0 where
  pub ends : length (first_line chunk) < length chunk
  pub behind : line.behind ≡ length (first_line chunk) + 1
  pub read : line_read line.read ≡ read_line (begun ++ first_line chunk)

-- LF ends the first line, which stands for the first n bytes of a buffer
pub record ReadInPlace (chunk : List ℕ) (n : ℕ) (buffer : List ℕ) : Type 0 where
  pub ends : length (first_line chunk) < length chunk
  pub long : length (first_line chunk) ≡ 2 * n
  pub fits : n ≤ longest_record
  pub read : read_line (first_line chunk) ≡ accepted (take n buffer)

-- the line goes on behind the chunk, and its first 59 characters are held; or LF ends it, and none are
abbrev pub NextFrom : List ℕ → List ℕ → Option EndedLine → List ℕ → Type 0
NextFrom begun chunk None held = (first_line chunk ≡ chunk) × (held ≡ take most_held (begun ++ chunk))
NextFrom begun chunk (Some line) held = LineEnded begun chunk line × (held ≡ [])
