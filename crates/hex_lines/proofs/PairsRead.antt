-- A text is read two characters at a time.
use Rattle.std.proofs.Common.{◌≡◌, ℕ, zero, suc, ◌+◌, ◌*◌, ◌/◌, ◌≤◌, ◌<◌, List, [], ◌∷◌, ◌++◌, Some, None, length, get_or, take, drop, set, refl, sym, ap, ◌∙◌}
use Rattle.std.proofs.Common.{arith, add-one, append_assoc, length-drop, drop-drop, length-append}
use lib.Seq.{take-suc-set}
use Rattle.std.specs.Simd.{first_chunks}
use Rattle.hex_lines.specs.Digit.{pair_of}
use Rattle.hex_lines.specs.Line.{all_digits, pairs, PairsRead, NoPairBegins}
use Rattle.hex_lines.proofs.PairsLaws.{all_digits-append, pair_read, pairs-two}

pub read_none : (text : List ℕ) → PairsRead text [] text
unfolding all_digits pairs
read_none text = record { front = []; parts = refl; digits = refl; read = refl; even = refl }

-- two digits more
pair_more : {text bytes rest : List ℕ} (c d v : ℕ) → PairsRead text bytes (c ∷ d ∷ rest) → pair_of c d ≡ Some v → PairsRead text (bytes ++ v ∷ []) rest
unfolding all_digits
pair_more {text} {bytes} {rest} c d v k e =
    let two = pair_read c d v e in
    record {
      front = k.front ++ c ∷ d ∷ [];
      parts = k.parts ∙ sym (append_assoc k.front (c ∷ d ∷ []) rest);
      digits = all_digits-append k.front (c ∷ d ∷ []) k.digits ∙ two.digits [];
      read = pairs-two c d k.front (omega (arith, k.even)) ∙ rw (k.read, ← two.value);
      even = simp length-append (omega (arith, k.even));
    }

-- the n-th two characters of a text
pub record TwoAt (text : List ℕ) (n : ℕ) (two : List ℕ) : Type 0 where
  pub within : 2 * n + 2 ≤ length text
  pub is : two ≡ take 2 (drop (2 * n) text)

chunk_at : (count n : ℕ) (text : List ℕ) → n < count → get_or (first_chunks 2 count text) n [] ≡ take 2 (drop (2 * n) text)
chunk_at zero n text h = absurd (omega arith)
chunk_at (suc count) zero text h = refl
chunk_at (suc count) (suc n) text h =
    let next : 2 * suc n ≡ 2 + 2 * n = omega arith in
    chunk_at count n (drop 2 text) (omega arith) ∙ rw next (ap (take 2) (drop-drop (2 * n) 2 text))

pub two_at : (text : List ℕ) (n : ℕ) (twos : List (List ℕ)) (two : List ℕ) → twos ≡ first_chunks 2 (length text / 2) text
    → length twos ≡ length text / 2 → n < length twos → two ≡ get_or twos n [] → TwoAt text n two
two_at text n twos two e count h is =
    record { within = omega arith; is = is ∙ rw e (chunk_at (length text / 2) n text (omega arith)) }

module _ {text two : List ℕ} {n : ℕ} (here : TwoAt text n two) where
  rest_long : 2 ≤ length (drop (2 * n) text)
  rest_long = omega (arith, here.within, length-drop (2 * n) text)

  pub read_more : (buffer : List ℕ) → PairsRead text (take n buffer) (drop (2 * n) text) → n < length buffer
      → (v : ℕ) → pair_of (get_or two 0 0) (get_or two 1 0) ≡ Some v → PairsRead text (take (n + 1) (set buffer n v)) (drop (2 * (n + 1)) text)
  read_more buffer k room v e =
      let next : 2 * (n + 1) ≡ 2 * n + 2 = omega arith in
      rw (add-one n, take-suc-set buffer n v room, ← add-one n, next, ← drop-drop 2 (2 * n) text)
      (by (drop (2 * n) text) rest_long k (rw here.is at e))
    where
      by : (rest : List ℕ) → 2 ≤ length rest → PairsRead text (take n buffer) rest → pair_of (get_or (take 2 rest) 0 0) (get_or (take 2 rest) 1 0) ≡ Some v
          → PairsRead text (take n buffer ++ v ∷ []) (drop 2 rest)
      by [] long k e = absurd (omega arith)
      by (c ∷ []) long k e = absurd (omega arith)
      by (c ∷ d ∷ rest) long k e = pair_more c d v k e

  -- no two digits stand there
  pub read_stop : pair_of (get_or two 0 0) (get_or two 1 0) ≡ None → NoPairBegins (drop (2 * n) text)
  read_stop e = by (drop (2 * n) text) (rw here.is at e)
    where
      by : (rest : List ℕ) → pair_of (get_or (take 2 rest) 0 0) (get_or (take 2 rest) 1 0) ≡ None → NoPairBegins rest
      by [] e long = absurd (omega arith)
      by (c ∷ []) e long = absurd (omega arith)
      by (c ∷ d ∷ rest) e long = e
