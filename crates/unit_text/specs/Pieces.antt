-- A session printed a piece at a time: what is left to print.
use Rattle.std.specs.Prelude.{ℕ, suc, ◌<◌, ◌≤◌, ◌≡◌, List, [], ◌++◌, length, take, Option, Some, None}
use Rattle.std.specs.Borrow.{Bor}
use Rattle.unit_text.specs.Stream.{Streamed, after, printed, printed_at_end}
use Rattle.unit_text.specs.Streams.{streamed}
use Rattle.unit_text.specs.declared.pieces.Pieces.{Pieces}

-- what is printed for the rest of a text and at the end of input; behind that, nothing
abbrev pub text_from : Streamed → List ℕ → List ℕ
text_from s rest = printed s rest ++ printed_at_end (after s rest)

abbrev pub text_left : Streamed → Option (Bor (List ℕ)) → List ℕ
text_left s (Some rest) = text_from s rest.now
text_left s None = []

abbrev pub left_text : Pieces → List ℕ
left_text pieces = text_left (streamed pieces.stream) pieces.rest

-- how many steps there are at most
abbrev pub steps_in : Option (Bor (List ℕ)) → ℕ
steps_in (Some rest) = suc (length rest.now)
steps_in None = 0

abbrev pub steps_left : Pieces → ℕ
steps_left pieces = steps_in pieces.rest

-- a piece is what was left, up to what is left behind it; none comes where nothing was left
pub record PieceOf (before : Pieces) (n : ℕ) (after : Pieces) : Type 0 where
  pub room : length after.piece ≡ 4096
  pub within : n ≤ length after.piece
  pub text : left_text before ≡ take n after.piece ++ left_text after
  pub fewer : steps_left after < steps_left before

abbrev pub NextPiece : Pieces → Option ℕ → Pieces → Type 0
NextPiece before (Some n) after = PieceOf before n after
NextPiece before None after = left_text before ≡ []
