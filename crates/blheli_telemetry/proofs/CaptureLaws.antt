-- The first good frame of a capture, one byte at a time; near the end a window is shorter than a frame.
use Rattle.std.specs.Prelude.{Option, Some, None, option_map}
use mathlib.Core.Path.{◌≡◌, ◌∙◌, refl, sym, ap, subst}
use mathlib.Core.Bool.{Bool, true, false, true≢false}
use mathlib.Core.List.{List, [], ◌∷◌}
use Prim.Native.Nat.{ℕ, zero, suc, ◌+◌, ◌<◌, ◌≤◌}
use native.Mathlib.Omega.{arith}
use lib.ListN.{length, length-take, length-drop}
use Rattle.base.specs.Choice.{pick}
use Rattle.base.specs.Reply.{is_accepted}
use Rattle.base.proofs.ByCases.{below_or_not}
use Rattle.blheli_telemetry.specs.Capture.{window, good, first_frame, NoneBefore, Searched, FirstSearched, OneAnswer, StartInside}
use Rattle.blheli_telemetry.proofs.FrameLaws.{read_length}

pub short-window : (capture : List ℕ) (start : ℕ) → length capture < start + 10 → good (window capture start) ≡ true → ⊥
short-window capture start h e =
    let n : length (window capture start) ≡ 10 → ⊥ = λ l. omega (arith, simp (length-take, length-drop) at l) in
    true≢false (sym e ∙ ap is_accepted (read_length (window capture start) n))

module _ (byte : ℕ) (behind : List ℕ) where
  one-more : (place : ℕ) → good (window (byte ∷ behind) 0) ≡ false → NoneBefore behind place → NoneBefore (byte ∷ behind) (suc place)
  one-more place bad none zero before e = true≢false (sym e ∙ bad)
  one-more place bad none (suc start) before e = none start (omega (arith, before)) e

  here-or-behind : (here : Bool) (found : Option ℕ) → good (window (byte ∷ behind) 0) ≡ here → Searched behind found
      → Searched (byte ∷ behind) (pick here (Some 0) (option_map suc found))
  here-or-behind true found e s = (e, λ start before. absurd (omega (arith, before)))
  here-or-behind false None e none = λ start. one-more start e (λ s before. none s) start (omega arith)
  here-or-behind false (Some place) e s = (s.0, one-more place e s.1)

pub first-searched : FirstSearched
unfolding first_frame
first-searched [] = λ start. short-window [] start (omega arith)
first-searched (byte ∷ behind) =
    here-or-behind byte behind (good (window (byte ∷ behind) 0)) (first_frame behind) refl (first-searched behind)

not-before : (capture : List ℕ) (one other : ℕ) → Searched capture (Some one) → Searched capture (Some other) → other ≤ one
not-before capture one other s t = below_or_not one other (λ before. absurd (t.1 one before s.0)) (λ h. h)

pub one-answer : OneAnswer
one-answer capture None None s t = refl
one-answer capture None (Some other) s t = absurd (s other t.0)
one-answer capture (Some one) None s t = absurd (t one s.0)
one-answer capture (Some one) (Some other) s t =
    let e : one ≡ other = omega (arith, not-before capture one other s t, not-before capture other one t s) in
    ap Some e

pub is-first : (capture : List ℕ) (found : Option ℕ) → Searched capture found → found ≡ first_frame capture
is-first capture found s = one-answer capture found (first_frame capture) s (first-searched capture)

pub first_good : (capture : List ℕ) (start : ℕ) → good (window capture start) ≡ true → NoneBefore capture start → Some start ≡ first_frame capture
first_good capture start here before = is-first capture (Some start) (here, before)

pub start-inside : StartInside
start-inside capture start e =
    let found : Searched capture (Some start) = subst (Searched capture) e (first-searched capture) in
    below_or_not (length capture) (start + 10) (λ short. absurd (short-window capture start short found.0)) (λ h. h)
