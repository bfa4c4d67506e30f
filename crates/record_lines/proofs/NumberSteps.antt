-- The number that digits stand for, two digits at a time.
use Rattle.std.proofs.Common.{◌≡◌, ℕ, ◌+◌, ◌*◌, ◌^◌, ◌≤◌, ◌<◌, List, [], ◌∷◌, Some, length, get_or, take, drop, refl, sym, ap, ◌∙◌}
use Rattle.std.proofs.Common.{arith, length-drop, drop-drop, get_or-drop, add-zero, zero-add, drop_of_length-le}
use Rattle.base.specs.BigEndian.{number_at}
use Rattle.base.proofs.NumberLaws.{number_more, below_more}
use Rattle.hex_lines.specs.Digit.{pair_of}
use Rattle.hex_lines.specs.Line.{all_digits, pairs}
use Rattle.record_lines.specs.WireLine.{NumberRead}
use Rattle.hex_lines.proofs.PairsLaws.{pair_read}
use Rattle.hex_lines.proofs.PairsRead.{TwoAt}

-- while a number is read, of which k bytes are
pub record NumberSoFar (text : List ℕ) (k t : ℕ) : Type 0 where
  pub digits : all_digits text ≡ all_digits (drop (2 * k) text)
  pub left : pairs (drop (2 * k) text) ≡ drop k (pairs text)
  pub number : t ≡ number_at k (pairs text) 0
  pub small : t < 256 ^ k

pub number_none : (text : List ℕ) → NumberSoFar text 0 0
unfolding number_at
number_none text = record { digits = refl; left = refl; number = refl; small = omega arith }

-- two digits more, which stand in front of what is left
number_on : {text : List ℕ} {k t : ℕ} → NumberSoFar text k t → (rest : List ℕ) → drop (2 * k) text ≡ rest → 2 ≤ length rest
    → (v : ℕ) → v < 256 → pair_of (get_or (take 2 rest) 0 0) (get_or (take 2 rest) 1 0) ≡ Some v → NumberSoFar text (k + 1) (t * 256 + v)
unfolding pairs
number_on s [] e long v byte p = absurd (omega arith)
number_on s (c ∷ []) e long v byte p = absurd (omega arith)
number_on {text} {k} {t} s (c ∷ d ∷ rest) e long v byte p =
    let two = pair_read c d v p in
    let next : 2 * (k + 1) ≡ 2 * k + 2 = omega arith in
    let on : drop (2 * (k + 1)) text ≡ rest = rw next (sym (drop-drop 2 (2 * k) text) ∙ ap (drop 2) e) in
    let left : drop k (pairs text) ≡ v ∷ pairs rest = sym s.left ∙ ap pairs e ∙ rw two.value in
    let here : get_or (pairs text) (0 + k) 0 ≡ v =
    rw zero-add (simp (get_or-drop, add-zero) at (ap (λ (l : List ℕ). get_or l 0 0) left)) in
    record {
      digits = s.digits ∙ rw (e, on) (two.digits rest);
      left = rw on (ap (drop 1) (sym left) ∙ drop-drop 1 k (pairs text));
      number = rw (← here, s.number) (number_more k (pairs text) 0);
      small = below_more k t v s.small byte;
    }

pub number_turn : {text two : List ℕ} {k t : ℕ} → NumberSoFar text k t → TwoAt text k two → (v : ℕ) → v < 256
    → pair_of (get_or two 0 0) (get_or two 1 0) ≡ Some v → NumberSoFar text (k + 1) (t * 256 + v)
number_turn {text} {k = k} s here v byte p =
    number_on s (drop (2 * k) text) refl (omega (arith, here.within, length-drop (2 * k) text)) v byte (rw here.is at p)

pub number_all : {text : List ℕ} {k t : ℕ} → NumberSoFar text k t → k ≡ 8 → length text ≡ 16 → NumberRead text t
unfolding all_digits
number_all {text} s e l =
    let none : drop (2 * 8) text ≡ [] = let all : length text ≤ 2 * 8 = omega arith in drop_of_length-le text all in
    record { digits = (rw e at s.digits) ∙ ap all_digits none; value = rw e at s.number }
