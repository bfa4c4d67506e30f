-- Numbers highest byte first, over their width: one byte more, and how large they are.
use Rattle.std.proofs.Common.{◌≡◌, ℕ, ◌+◌, ◌*◌, ◌^◌, ◌<◌, List, get_or, pow-suc, add-one, arith}
use Rattle.base.specs.BigEndian.{number_at}

pub number_more : (k : ℕ) (s : List ℕ) (at : ℕ) → number_at k s at * 256 + get_or s (at + k) 0 ≡ number_at (k + 1) s at
unfolding number_at
number_more k s at = rw add-one

pub below_more : (k n b : ℕ) → n < 256 ^ k → b < 256 → n * 256 + b < 256 ^ (k + 1)
below_more k n b h l = rw (add-one, pow-suc) (omega arith)
