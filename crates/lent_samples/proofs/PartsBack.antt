-- Pieces of one length, put one behind the other, are the parts of the whole again: each is what the first so many bytes are.
use Rattle.std.proofs.Common.{◌≡◌, ℕ, ◌*◌, ◌/◌, List, [], ◌∷◌, All, length, flat_map, refl, ap, arith}
use Rattle.std.proofs.Common.{length-append, take_at, drop_at}
use Rattle.std.proofs.lemmas.List.Elements.{All-head, All-tail}
use Rattle.std.specs.Simd.{first_chunks}
use Rattle.lent_samples.specs.Samples.{sample_parts}

module _ (n : ℕ) where
  abbrev pub Long : List ℕ → Type 0
  Long p = length p ≡ n

  pub pieces-length : (pieces : List (List ℕ)) → All Long pieces → length (flat_map (λ p. p) pieces) ≡ length pieces * n
  pieces-length [] each = omega arith
  pieces-length (p ∷ pieces) each =
      rw (length-append p (flat_map (λ p. p) pieces), All-head Long p pieces each, pieces-length pieces (All-tail Long p pieces each)) (omega arith)

  chunks-back : (pieces : List (List ℕ)) → All Long pieces → first_chunks n (length pieces) (flat_map (λ p. p) pieces) ≡ pieces
  chunks-back [] each = refl
  chunks-back (p ∷ pieces) each =
      let rest = flat_map (λ (q : List ℕ). q) pieces in
      let long = All-head Long p pieces each in
      rw (take_at p rest n long, drop_at p rest n long) (ap (λ (l : List (List ℕ)). p ∷ l) (chunks-back pieces (All-tail Long p pieces each)))

-- the parts of pieces of 22 are these pieces
pub parts-back : (pieces : List (List ℕ)) → All (Long 22) pieces → sample_parts (flat_map (λ p. p) pieces) ≡ pieces
parts-back pieces each =
    let count : length (flat_map (λ p. p) pieces) / 22 ≡ length pieces = omega (arith, pieces-length 22 pieces each) in
    rw count (chunks-back 22 pieces each)
