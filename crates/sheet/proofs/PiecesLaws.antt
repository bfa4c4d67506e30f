-- Pieces one behind the other: one more, and how long they are where all are equally long.
use Rattle.std.proofs.Common.{◌≡◌, ℕ, zero, suc, ◌+◌, ◌*◌, ◌<◌, ◌≤◌, List, [], ◌∷◌, ◌++◌, take, drop, length, refl, ap, sym, ◌∙◌, arith}
use Rattle.std.proofs.Common.{append-nil, length-append, length-drop, drop_at, take_all, add-zero, mul-le-mul_right, suc-mul}
use Rattle.std.proofs.lemmas.Bool.{cases_lt}
use Rattle.std.proofs.lemmas.List.{drop-append-le, take-append-le}
use mathlib.Core.Logic.{◌⊎◌, inl, inr}
use Rattle.std.proofs.lemmas.List.Concat.{flat_map-append}
use Rattle.std.specs.List.{flat_map, range_with_len}
use Rattle.sheet.specs.Pieces.{first_pieces}

range-more : (a n m : ℕ) → a + n ≡ m → range_with_len a (suc n) ≡ range_with_len a n ++ m ∷ []
range-more a zero m e = rw (sym (add-zero a) ∙ e) refl
range-more a (suc n) m e = ap (λ (l : List ℕ). a ∷ l) (range-more (a + 1) n m (omega (arith, e)))

pub pieces-more : (piece : ℕ → List ℕ) (n : ℕ) → first_pieces piece (suc n) ≡ first_pieces piece n ++ piece n
pieces-more piece n =
    ap (flat_map piece) (range-more 0 n n (omega arith)) ∙ flat_map-append piece (range_with_len 0 n) (n ∷ [])
    ∙ ap (λ (l : List ℕ). first_pieces piece n ++ l) (append-nil (piece n))

pub pieces-long : (piece : ℕ → List ℕ) (long n : ℕ) → ((k : ℕ) → k < n → length (piece k) ≡ long) → length (first_pieces piece n) ≡ n * long
pieces-long piece long zero each = omega arith
pieces-long piece long (suc n) each =
    rw (pieces-more piece n, length-append, pieces-long piece long n (λ k h. each k (omega arith)), each n (omega arith)) (omega arith)

-- equal pieces are equal runs of them
pub pieces-same : (piece other : ℕ → List ℕ) (n : ℕ) → ((k : ℕ) → k < n → piece k ≡ other k) → first_pieces piece n ≡ first_pieces other n
pieces-same piece other zero each = refl
pieces-same piece other (suc n) each =
    rw (pieces-more piece n, pieces-more other n, pieces-same piece other n (λ k h. each k (omega arith)), each n (omega arith)) refl

-- each piece stands behind those before it
pub piece-at : (piece : ℕ → List ℕ) (long n : ℕ) → ((k : ℕ) → k < n → length (piece k) ≡ long)
    → (k : ℕ) → k < n → take long (drop (k * long) (first_pieces piece n)) ≡ piece k
piece-at piece long zero each k h = absurd (omega arith)
piece-at piece long (suc n) each k h = by (piece-at piece long n (λ j l. each j (omega arith)) k) (cases_lt k n)
  where
    before : List ℕ
    before = first_pieces piece n

    room : length before ≡ n * long
    room = pieces-long piece long n (λ j l. each j (omega arith))

    by : (k < n → take long (drop (k * long) before) ≡ piece k) → (k < n) ⊎ (n ≤ k)
        → take long (drop (k * long) (first_pieces piece (suc n))) ≡ piece k
    by earlier (inl below) =
        let part : k * long + long ≤ n * long = omega (arith, mul-le-mul_right {m = suc k} {n = n} long below, suc-mul k long) in
        rw (pieces-more piece n, drop-append-le (k * long) before (piece n) (omega (arith, room, part)))
        (take-append-le long (drop (k * long) before) (piece n) (omega (arith, length-drop (k * long) before, room, part))
        ∙ earlier below)
    by earlier (inr last) =
        let same : k ≡ n = omega arith in
        rw (pieces-more piece n, same, drop_at before (piece n) (n * long) room) (take_all long (piece n) (omega (arith, each n (omega arith))))
