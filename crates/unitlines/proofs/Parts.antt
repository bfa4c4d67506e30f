-- A chunk in two parts: the first part makes a stream, and what that makes and prints of the second completes the chunk.
use Rattle.std.proofs.Common.{◌≡◌, ℕ, ◌<◌, true, false, List, [], ◌∷◌, ◌++◌, length, take, drop, take-append-drop, eqb-true, refl, sym, ap, ◌∙◌, arith}
use mathlib.Core.Bool.{true≢false}
use Rattle.std.specs.Prelude.{◌==◌}
use Rattle.unit_text.specs.Stream.{Streamed, after, printed}
use Rattle.unit_text.proofs.StreamLaws.{after-append, printed-append}

pub nothing_left : (text : List ℕ) → (length text == 0) ≡ true → text ≡ []
nothing_left [] e = refl
nothing_left (c ∷ text) e = let none : length (c ∷ text) ≡ 0 = eqb-true (length (c ∷ text)) 0 e in absurd (omega arith)

pub some_left : (text : List ℕ) → (length text == 0) ≡ false → 0 < length text
some_left [] e = absurd (true≢false e)
some_left (c ∷ text) e = omega arith

module _ (s t : Streamed) (text : List ℕ) (n : ℕ) (e : t ≡ after s (take n text)) where
  pub after_parts : after t (drop n text) ≡ after s text
  after_parts = rw e (sym (after-append s (take n text) (drop n text))) ∙ ap (after s) (take-append-drop n text)

  pub printed_parts : printed s (take n text) ++ printed t (drop n text) ≡ printed s text
  printed_parts = rw e (sym (printed-append s (take n text) (drop n text))) ∙ ap (printed s) (take-append-drop n text)
