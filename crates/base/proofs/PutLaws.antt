-- Runs of bytes put one after the other are one run; no bytes written leave a buffer as found.
use Rattle.std.proofs.Common.{◌≡◌, ℕ, ◌+◌, ◌≤◌, List, [], ◌++◌, length, sym, ◌∙◌, add-zero, arith, length-append, take-append-drop}
use Rattle.base.specs.BigEndian.{overwrite}
use Rattle.base.specs.Put.{Put}
use Rattle.base.proofs.BigEndianLaws.{overwrite-append}

-- two runs, the second from where the first ends, are one
pub put_then : {at m n : ℕ} {a b s t u : List ℕ} → at + (length a + length b) ≤ length s → Put at a s t m → Put m b t u n → Put at (a ++ b) s u n
put_then {at} {m} {n} {a} {b} {s} room first rest =
    record {
      contents = rest.contents ∙ rw first.contents (overwrite-append at m a b s (sym first.place) (omega (arith, first.place)));
      place = omega (arith, length-append a b, first.place, rest.place);
    }

pub overwrite-none : (at : ℕ) (s : List ℕ) → overwrite at [] s ≡ s
unfolding overwrite
overwrite-none at s = rw (add-zero at) (take-append-drop at s)

-- nothing put
pub put-none : (at : ℕ) (s : List ℕ) → Put at [] s s at
put-none at s = record { contents = sym (overwrite-none at s); place = omega arith }
