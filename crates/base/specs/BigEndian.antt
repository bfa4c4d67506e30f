-- Numbers of any width in bytes, highest byte first.
use Rattle.std.specs.Prelude.{ℕ, zero, suc, ◌+◌, ◌*◌, ◌/◌, ◌%◌, List, [], ◌∷◌, ◌++◌, length, take, drop, slice_index}

-- the number that k bytes of s spell, from place `at` on
unfoldable pub number_at : ℕ → List ℕ → ℕ → ℕ
number_at zero s at = 0
number_at (suc k) s at = number_at k s at * 256 + slice_index s (at + k)

-- the k bytes that spell v, modulo 256 ^ k
unfoldable pub bytes_of : ℕ → ℕ → List ℕ
bytes_of zero v = []
bytes_of (suc k) v = bytes_of k (v / 256) ++ (v % 256 ∷ [])

-- a buffer with the bytes b written over it from place `at` on, the rest as found
unfoldable pub overwrite : ℕ → List ℕ → List ℕ → List ℕ
overwrite at b s = take at s ++ (b ++ drop (at + length b) s)
