-- A number is spelt by its bytes, wherever these stand: the last of them is its rest modulo 256, those before it spell its quotient.
use Rattle.std.proofs.Common.{◌≡◌, ℕ, zero, suc, ◌+◌, ◌/◌, ◌%◌, ◌^◌, ◌<◌, List, [], ◌∷◌, ◌++◌, length, get_or, refl, pow-suc, arith}
use Rattle.std.proofs.Common.{append_assoc, length-append}
use Rattle.std.proofs.lemmas.List.{get_or_at}
use Rattle.base.specs.BigEndian.{number_at, bytes_of}

bytes-long : (k v : ℕ) → length (bytes_of k v) ≡ k
unfolding bytes_of
bytes-long zero v = refl
bytes-long (suc k) v = simp length-append (omega (arith, bytes-long k (v / 256)))

pub number-back : (k v at : ℕ) (before rest : List ℕ) → length before ≡ at → v < 256 ^ k → number_at k (before ++ (bytes_of k v ++ rest)) at ≡ v
unfolding number_at bytes_of
number-back zero v at before rest l h = omega arith
number-back (suc k) v at before rest l h =
    let last = v % 256 ∷ rest in
    let high = number-back k (v / 256) at before last l (omega (arith, h, pow-suc 256 k)) in
    let front : List ℕ = before ++ bytes_of k (v / 256) in
    let long : length front ≡ at + k = simp length-append (omega (arith, bytes-long k (v / 256))) in
    let low : get_or (front ++ last) (at + k) 0 ≡ v % 256 = get_or_at front (v % 256) rest 0 (at + k) long in
    rw (append_assoc (bytes_of k (v / 256)) (v % 256 ∷ []) rest, high, ← append_assoc before (bytes_of k (v / 256)) last, low) (omega arith)
