-- The first line of a chunk, by how it ends.
use Rattle.std.proofs.Common.{◌≡◌, ℕ, ◌+◌, ◌<◌, ◌≤◌, eqb, List, [], ◌∷◌, ◌++◌, Some, None, length, get_or, take, drop}
use Rattle.std.proofs.Common.{refl, sym, ap, ◌∙◌, arith, add-one, append-nil, take-append-drop, drop-cons}
use Rattle.std.proofs.lemmas.List.{take_all}
use Rattle.std.proofs.lemmas.Bool.Decides.{nat_tests}
use Rattle.std.specs.List.{position, position_or_len}
use borrow.Author.Tests.{eq-eqb, ne_eqb}
use Rattle.hex_lines.specs.Line.{line_end}
use Rattle.hex_lines.specs.NextLine.{first_line}
use Rattle.hex_lines.proofs.Unended.{Unended}

first_past : (line text : List ℕ) → Unended line → first_line (line ++ text) ≡ line ++ first_line text
unfolding first_line
first_past [] text u = refl
first_past (c ∷ line) text u = rw (ne_eqb c line_end u.0) (ap (λ (l : List ℕ). c ∷ l) (first_past line text u.1))

-- LF stands behind it
pub first_before : (line rest : List ℕ) → Unended line → 0 < length rest → get_or rest 0 0 ≡ line_end → first_line (line ++ rest) ≡ line
unfolding first_line
first_before line [] u h e = absurd (omega arith)
first_before line (c ∷ rest) u h e = first_past line (c ∷ rest) u ∙ rw (eq-eqb c line_end e) (append-nil line)

-- the first line has no LF, and LF stands behind it where it is not all
pub first-unended : (chunk : List ℕ) → Unended (first_line chunk)
unfolding first_line
first-unended [] = tt
first-unended (c ∷ chunk) = grind (arith, nat_tests, first-unended chunk)

first-front : (chunk : List ℕ) → take (length (first_line chunk)) chunk ≡ first_line chunk
unfolding first_line
first-front [] = refl
first-front (c ∷ chunk) = grind (arith, nat_tests, first-front chunk)

first-lf : (chunk : List ℕ) → length (first_line chunk) < length chunk → get_or chunk (length (first_line chunk)) 0 ≡ line_end
unfolding first_line
first-lf [] h = absurd (omega arith)
first-lf (c ∷ chunk) h = grind (arith, nat_tests, first-lf chunk)

pub first-split : (chunk : List ℕ) → length (first_line chunk) < length chunk
    → chunk ≡ first_line chunk ++ line_end ∷ drop (length (first_line chunk) + 1) chunk
first-split chunk h =
    let n = length (first_line chunk) in
    sym (take-append-drop n chunk) ∙ rw (first-front chunk, drop-cons chunk n 0 h, first-lf chunk h, add-one)

-- where the first LF is, which ends the first line
first-length : (chunk : List ℕ) → length (first_line chunk) ≡ position_or_len (λ c. eqb c line_end) chunk
unfolding first_line
first-length [] = refl
first-length (c ∷ chunk) = grind (arith, nat_tests, first-length chunk)

pub record FirstEnds (chunk : List ℕ) (n : ℕ) : Type 0 where
  pub length_is : length (first_line chunk) ≡ n
  pub within : n < length chunk
  pub front : take n chunk ≡ first_line chunk

module _ (chunk : List ℕ) where
  pub first-place : (n : ℕ) → position (λ c. eqb c line_end) chunk ≡ Some n → FirstEnds chunk n
  first-place n e =
      let l : length (first_line chunk) ≡ n = grind (arith, nat_tests, first-length chunk) in
      record { length_is = l; within = grind (arith, nat_tests, first-length chunk); front = rw l at (first-front chunk) }

  pub no-first-place : position (λ c. eqb c line_end) chunk ≡ None → first_line chunk ≡ chunk
  no-first-place e = let all : length chunk ≤ length (first_line chunk) = grind (arith, nat_tests, first-length chunk) in
      sym (first-front chunk) ∙ take_all (length (first_line chunk)) chunk all
