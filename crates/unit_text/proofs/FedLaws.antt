-- What a feed hands back, by the characters that it used.
use mathlib.Core.Path.{◌≡◌, refl, sym, ap, ◌∙◌}
use mathlib.Core.List.{List, [], ◌∷◌}
use Prim.Native.Nat.{ℕ, zero, suc, ◌-◌, ◌≤◌, ◌<◌}
use native.Mathlib.Omega.{arith}
use borrow.Author.Tests.{le-leb, lt-leb}
use lib.ListN.{length, take, length-append, length-take}
use Rattle.base.proofs.ByCases.{below_or_not}
use Rattle.base.proofs.BigEndianLaws.{overwrite-front}
use Rattle.unit_text.specs.Stream.{Streamed, Taken, after_one, printed_at, after, printed, taken, taken_text, feed_of, fed_output, longest_line}
use Rattle.unit_text.proofs.StreamLaws.{printed-at-length}

-- what is taken fits
pub taken-fits : (s : Streamed) (room : ℕ) (text : List ℕ) → length (printed s (taken_text s text room)) ≤ room
unfolding taken printed
taken-fits s room [] = omega arith
taken-fits s room (c ∷ text) =
    below_or_not room longest_line
    (λ h. rw (lt-leb longest_line room h) (omega arith))
    (λ h.
    rw (le-leb longest_line room h)
    (omega (
      arith,
      length-append (printed_at s c) (printed (after_one s c) (taken_text (after_one s c) text (room - length (printed_at s c)))),
      printed-at-length s c,
      taken-fits (after_one s c) (room - length (printed_at s c)) text,
    )))

-- something is taken where there is room for a line
taken-some : (s : Streamed) (room : ℕ) (text : List ℕ) → longest_line ≤ room → 0 < length text → 0 < length (taken_text s text room)
unfolding taken
taken-some s room [] h k = absurd (omega arith)
taken-some s room (c ∷ text) h k = rw (le-leb longest_line room h) (omega arith)

-- as many characters of a list as a front part of it has are that part
front-again : (n : ℕ) (text : List ℕ) → take (length (take n text)) text ≡ take n text
front-again zero text = refl
front-again (suc n) [] = refl
front-again (suc n) (c ∷ text) = ap (λ (l : List ℕ). c ∷ l) (front-again n text)

module _ (s : Streamed) (text : List ℕ) (room : ℕ) (t : Taken) (e : t ≡ feed_of s text room) where
  used-text : take t.used text ≡ taken_text s text room
  unfolding feed_of
  used-text = ap (λ (x : Taken). take x.used text) e ∙ front-again (taken s room text) text

  pub fed-stream : t.stream ≡ after s (take t.used text)
  unfolding feed_of
  fed-stream = ap (λ (x : Taken). x.stream) e ∙ ap (after s) (sym used-text)

  pub fed-written : t.written ≡ length (printed s (take t.used text))
  unfolding feed_of
  fed-written = ap (λ (x : Taken). x.written) e ∙ ap (λ (l : List ℕ). length (printed s l)) (sym used-text)

  used-length : t.used ≡ length (taken_text s text room)
  unfolding feed_of
  used-length = ap (λ (x : Taken). x.used) e

  pub fed-within : t.used ≤ length text
  fed-within = omega (arith, used-length, length-take (taken s room text) text)

  pub fed-some : longest_line ≤ room → 0 < length text → 0 < t.used
  fed-some h k = omega (arith, used-length, taken-some s room text h k)

  pub fed-fits : t.written ≤ room
  fed-fits = omega (arith, fed-written, ap (λ (l : List ℕ). length (printed s l)) used-text, taken-fits s room text)

  -- what was written stands in front of the output
  pub fed-text : (out out' : List ℕ) → length out ≡ room → out' ≡ fed_output s text out → take t.written out' ≡ printed s (take t.used text)
  unfolding fed_output
  fed-text out out' l o =
      let p : printed s (taken_text s text (length out)) ≡ printed s (take t.used text) = rw l (ap (printed s) (sym used-text)) in
      ap (take t.written) o ∙ rw p (overwrite-front (printed s (take t.used text)) out t.written (sym fed-written))
