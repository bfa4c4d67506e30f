-- Numbers highest byte first: their bytes, and writing these over a buffer one after the other.
use Rattle.std.proofs.Common.{◌≡◌, ℕ, zero, suc, ◌+◌, ◌*◌, ◌/◌, ◌%◌, ◌^◌, ◌<◌, ◌≤◌, List, [], ◌∷◌, ◌++◌, length, get_or, take, drop, set, refl, ◌∙◌}
use Rattle.std.proofs.Common.{append_assoc, add-zero, zero-add, add_assoc, add-suc, add-one, arith, length-append, length-drop, length-take}
use Rattle.std.proofs.Common.{get_or-drop, take-suc, drop-drop, take_at}
use lib.Seq.{drop-append-add, set_split}
use Rattle.base.specs.BigEndian.{number_at, bytes_of, overwrite}

-- one byte spells itself
pub number-one : (s : List ℕ) (at : ℕ) → number_at 1 s at ≡ get_or s at 0
unfolding number_at
number-one s at = simp (add-zero, zero-add)

-- what k bytes spell is spelt by those bytes again, at every width
pub bytes-number : (k : ℕ) (s : List ℕ) (at : ℕ) → ((i : ℕ) → get_or s i 0 < 256) → at + k ≤ length s → bytes_of k (number_at k s at) ≡ take k (drop at s)
unfolding number_at bytes_of
bytes-number zero s at byte h = refl
bytes-number (suc k) s at byte h =
    let b = get_or s (at + k) 0 in
    let high : (number_at k s at * 256 + get_or s (at + k) 0) / 256 ≡ number_at k s at = omega (arith, byte (at + k)) in
    let low : (number_at k s at * 256 + get_or s (at + k) 0) % 256 ≡ get_or s (at + k) 0 = omega (arith, byte (at + k)) in
    let n : k < length (drop at s) = simp length-drop (omega (arith, add-suc at k)) in
    rw (high, low, bytes-number k s at byte (omega (arith, add-suc at k)), take-suc (drop at s) k 0 n, get_or-drop)

-- k bytes spell a number below 256 ^ k
pub number_fits : (k : ℕ) (s : List ℕ) (at : ℕ) → ((i : ℕ) → get_or s i 0 < 256) → number_at k s at < 256 ^ k
unfolding number_at
number_fits zero s at byte = omega arith
number_fits (suc k) s at byte = omega (arith, number_fits k s at byte, byte (at + k))

-- a number is as many bytes long as is asked
pub bytes-length : (k v : ℕ) → length (bytes_of k v) ≡ k
unfolding bytes_of
bytes-length zero v = refl
bytes-length (suc k) v = rw (length-append, bytes-length k (v / 256)) (omega arith)

-- bytes written within a buffer leave it as long as it was
pub overwrite-length : (at : ℕ) (b s : List ℕ) → at + length b ≤ length s → length (overwrite at b s) ≡ length s
unfolding overwrite
overwrite-length at b s h = simp (length-append, length-take, length-drop) (omega arith)

-- the bytes written from the first place on stand in front
pub overwrite-front : (b s : List ℕ) (n : ℕ) → length b ≡ n → take n (overwrite 0 b s) ≡ b
unfolding overwrite
overwrite-front b s n h = take_at b (drop (0 + length b) s) n h

-- one byte
pub overwrite-set : (at x : ℕ) (s : List ℕ) → at < length s → overwrite at (x ∷ []) s ≡ set s at x
unfolding overwrite
overwrite-set at x s h = rw (set_split s at x h, add-one) refl

-- two runs of bytes, the second from where the first ends, are one
pub overwrite-append : (at n : ℕ) (a b s : List ℕ) → at + length a ≡ n → n + length b ≤ length s
    → overwrite n b (overwrite at a s) ≡ overwrite at (a ++ b) s
unfolding overwrite
overwrite-append at n a b s e h =
    let x : List ℕ = take at s ++ a in
    let m : length (take at s ++ a) ≡ at + length a = simp (length-append, length-take) (omega arith) in
    let before : take (at + length a) (take at s ++ (a ++ drop (at + length a) s)) ≡ take at s ++ a =
    rw (← append_assoc) (take_at x (drop (at + length a) s) (at + length a) m) in
    let after : drop (at + length a + length b) (take at s ++ (a ++ drop (at + length a) s)) ≡ drop (at + length a + length b) s =
    rw (← append_assoc, ← m) (drop-append-add x (drop (length x) s) (length b) ∙ drop-drop (length b) (length x) s) in
    rw (← e, before, after, length-append, add_assoc) (simp append_assoc)
