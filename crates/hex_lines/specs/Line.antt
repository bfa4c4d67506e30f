-- A line of hexadecimal characters and the bytes that it stands for (document 01, 'Numbers handed back', 1 to 3).
use Rattle.std.specs.Prelude.{ℕ, ◌+◌, ◌*◌, ◌/◌, ◌%◌, ◌≡◌, ◌≤◌, Bool, true, ◌&&◌, List, [], ◌∷◌, ◌++◌, nat_eq, nat_le, length, slice_index}
use Rattle.std.specs.Prelude.{Result, Ok, Err, None}
use Rattle.std.specs.Borrow.{Bor}
use Rattle.base.specs.Choice.{pick}
use Rattle.base.specs.Reply.{Reply, accepted, refused, refusal_number}
use Rattle.base.specs.declared.refusal.Refusal.{Refusal}
use Rattle.hex_lines.specs.Digit.{digit_of, is_digit, pair_of, glyph_of}

-- LF
abbrev pub line_end : ℕ
line_end = 0x0a

-- as many bytes as any record has
abbrev pub longest_record : ℕ
longest_record = 29

-- the widest line: two characters for each byte of the longest record
abbrev pub widest : ℕ
widest = 58

-- as much as is held of a line: one character more than the widest has, so that a line that is too wide needs no mark
abbrev pub most_held : ℕ
most_held = 59

unfoldable pub all_digits : List ℕ → Bool
all_digits [] = true
all_digits (c ∷ line) = is_digit c && all_digits line

-- the bytes that the digits stand for, two by two, the high one first
unfoldable pub pairs : List ℕ → List ℕ
pairs [] = []
pairs (c ∷ []) = []
pairs (c ∷ d ∷ line) = (digit_of c * 16 + digit_of d) ∷ pairs line

-- 1 over 58 characters, 2 a character that is no digit, 3 an odd count of characters: in this order
unfoldable pub read_line : List ℕ → Reply (List ℕ)
read_line line =
    pick (nat_le (length line) widest)
    (pick (all_digits line) (pick (nat_eq (length line % 2) 0) (accepted (pairs line)) (refused 3)) (refused 2))
    (refused 1)

-- the two characters of each byte
unfoldable pub hex_of : List ℕ → List ℕ
hex_of [] = []
hex_of (b ∷ bytes) = glyph_of (b / 16) ∷ glyph_of (b % 16) ∷ hex_of bytes

-- bytes as a line of their own
unfoldable pub printed_line : List ℕ → List ℕ
printed_line bytes = hex_of bytes ++ line_end ∷ []

-- how a line is read, where its bytes are lent
abbrev pub line_read : Result (Bor (List ℕ)) Refusal → Reply (List ℕ)
line_read (Ok bytes) = accepted bytes.now
line_read (Err refusal) = refused (refusal_number refusal)

-- a text is digits, two by two the ones of these bytes, and a rest
pub record PairsRead (text bytes rest : List ℕ) : Type 0 where
  pub front : List ℕ
  pub parts : text ≡ front ++ rest
  pub digits : all_digits front ≡ true
  pub read : pairs front ≡ bytes
  pub even : length front ≡ 2 * length bytes

-- no two digits stand in front
abbrev pub NoPairBegins : List ℕ → Type 0
NoPairBegins rest = 2 ≤ length rest → pair_of (slice_index rest 0) (slice_index rest 1) ≡ None
