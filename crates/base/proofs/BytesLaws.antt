-- In a list of bytes each entry is below 256, past its end too.
use Rattle.std.proofs.Common.{◌≡◌, ℕ, zero, suc, ◌<◌, true, ltb, List, [], ◌∷◌, get_or, arith, ltb-true}
use Rattle.base.specs.Bytes.{are_bytes}
use Rattle.base.proofs.Both.{and_left, and_right}

pub bytes_below : (s : List ℕ) → are_bytes s ≡ true → (i : ℕ) → get_or s i 0 < 256
unfolding are_bytes
bytes_below [] e i = omega arith
bytes_below (b ∷ s) e zero = ltb-true b 256 (and_left (ltb b 256) _ e)
bytes_below (b ∷ s) e (suc i) = bytes_below s (and_right (ltb b 256) _ e) i
