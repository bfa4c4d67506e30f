-- What the program hands to its write call: at each part of the input that it has read what the stream prints at it (`write_printed`),
-- and last what the stream prints at the end (`write_end`).
use Rattle.std.specs.Prelude.{ℕ, List, [], ◌∷◌}
use Rattle.unit_text.specs.Stream.{Streamed, after, printed, printed_at_end}

unfoldable pub pieces : Streamed → List (List ℕ) → List (List ℕ)
pieces s [] = printed_at_end s ∷ []
pieces s (part ∷ parts) = printed s part ∷ pieces (after s part) parts
