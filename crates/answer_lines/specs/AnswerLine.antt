-- A line of answers read character by character: what is kept of it, and what it tells at its end.
use Rattle.std.specs.Prelude.{◌≡◌, ℕ, ◌%◌, Bool, true, false, ◌&&◌, ◌||◌, List, [], ◌∷◌, ◌++◌, Option, Some, None, is_some, nat_eq, nat_le, nat_lt, length}
use Rattle.std.specs.List.{fold}
use Rattle.base.specs.Choice.{pick}
use Rattle.hex_lines.specs.Digit.{pair_of}
use Rattle.hex_lines.specs.Line.{all_digits, pairs}
use Rattle.esc_answers.specs.Answer.{longest_answer}
use Rattle.answer_lines.specs.Told.{told_by}
use Rattle.answer_lines.specs.declared.told.Told.{Told}
use Rattle.answer_lines.specs.declared.told.Told.TheVariants as told

-- the widest line of an answer: two characters for each byte of the longest
abbrev pub widest_answer : ℕ
widest_answer = 86

-- the bytes that a line stands for; none of a line that is too wide, has another character than digits, or an odd count of them
unfoldable pub line_bytes : List ℕ → Option (List ℕ)
line_bytes line =
    pick (nat_le (length line) widest_answer && (all_digits line && nat_eq (length line % 2) 0)) (Some (pairs line)) None

abbrev pub bytes_tell : Option (List ℕ) → Told
bytes_tell None = told.NoAnswer
bytes_tell (Some bytes) = told_by bytes

-- what a line tells
unfoldable pub line_tells : List ℕ → Told
line_tells line = bytes_tell (line_bytes line)

-- what is kept of a line's characters so far
pub record Kept : Type 0 where
  -- the bytes of its digits, two by two
  pub bytes : List ℕ
  -- the character that begins the next
  pub begun : Option ℕ
  -- that it is no answer's line, whatever follows
  pub faulty : Bool

-- whole bytes alone
abbrev pub bytes_kept : List ℕ → Kept
bytes_kept bytes = record { bytes = bytes; begun = None; faulty = false }

abbrev pub nothing_kept : Kept
nothing_kept = bytes_kept []

-- with the byte of two characters, if they are digits and it has room
unfoldable pub with_byte : Kept → Option ℕ → Kept
with_byte k None = record { bytes = k.bytes; begun = None; faulty = true }
with_byte k (Some byte) =
    pick (nat_lt (length k.bytes) longest_answer)
    (record { bytes = k.bytes ++ byte ∷ []; begun = None; faulty = k.faulty })
    (record { bytes = k.bytes; begun = None; faulty = true })

abbrev pub with_second : Kept → Option ℕ → ℕ → Kept
with_second k None c = record { bytes = k.bytes; begun = Some c; faulty = k.faulty }
with_second k (Some first) c = with_byte k (pair_of first c)

-- one character more
unfoldable pub with_character : Kept → ℕ → Kept
with_character k c = with_second k k.begun c

-- what is kept of a line's characters, taken one after the other
abbrev pub kept_of : List ℕ → Kept
kept_of line = fold with_character nothing_kept line

-- what is kept of these characters
pub record Reads (k : Kept) (line : List ℕ) : Type 0 where
  pub kept : k ≡ kept_of line

-- whether a character was taken
unfoldable pub any_taken : Kept → Bool
any_taken k = k.faulty || (is_some k.begun || nat_lt 0 (length k.bytes))

-- what the line tells that ends here
unfoldable pub told_at_end : Kept → Told
told_at_end k = pick (k.faulty || is_some k.begun) told.NoAnswer (told_by k.bytes)
