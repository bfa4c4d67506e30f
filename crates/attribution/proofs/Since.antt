-- The requests granted, and the bytes since the latest 02: what one entry more makes of them, and a test that each byte passes.
use mathlib.Core.Path.{◌≡◌, refl, sym, ◌∙◌}
use mathlib.Core.List.{List, [], ◌∷◌, ◌++◌, append_assoc, append-nil}
use Rattle.std.specs.Prelude.{Option, None, Some}
use mathlib.Core.Bool.{Bool, true, false, ◌&&◌}
use Prim.Native.Nat.{ℕ}
use Rattle.booking.specs.History.{Timed, Byte}
use Rattle.attribution.specs.Marks.{LogEntry, Log}
use Rattle.attribution.specs.Origin.{requests, Arrival, arrivals}
use Rattle.attribution.specs.Since.{taken_since, each}
use Rattle.base.proofs.Both.{and_left, and_right}

module _ (l : Log) (e : LogEntry) where
  pub requests-keep : e.seen.requests.granted ≡ None → requests (e ∷ l) ≡ requests l
  unfolding requests
  requests-keep g = rw g

  pub since-same : e.seen.requests.granted ≡ None → e.seen.wire.byte ≡ None → taken_since (e ∷ l) ≡ taken_since l
  unfolding taken_since
  since-same g b = rw (g, b) (append-nil (taken_since l))

  pub since-more : e.seen.requests.granted ≡ None → (b : Byte) → e.seen.wire.byte ≡ Some b
      → taken_since (e ∷ l) ≡ taken_since l ++ record { byte = b; origin = e.origin } ∷ []
  unfolding taken_since
  since-more g b x = rw (g, x)

  pub since-grant : (g : Timed) → e.seen.requests.granted ≡ Some g → taken_since (e ∷ l) ≡ []
  unfolding taken_since
  since-grant g x = rw x

pub each_append : (test : Option ℕ → Bool) (a b : List Arrival) → each test (a ++ b) ≡ (each test a && each test b)
each_append test [] b = refl
each_append test (t ∷ a) b = go (test t.origin) (each_append test a b)
  where
    go : (x : Bool) → each test (a ++ b) ≡ (each test a && each test b) → (x && each test (a ++ b)) ≡ (x && each test a && each test b)
    go true e = e
    go false e = refl

pub each-middle : (test : Option ℕ → Bool) (a b c : List Arrival) → each test (a ++ (b ++ c)) ≡ true → each test b ≡ true
each-middle test a b c e =
    let x = and_right (each test a) _ (sym (each_append test a (b ++ c)) ∙ e) in
    and_left (each test b) _ (sym (each_append test b c) ∙ x)

-- all bytes taken in are those before the latest 02, and those since
pub record Before (l : Log) : Type 0 where
  pub others : List Arrival
  pub whole : arrivals l ≡ others ++ taken_since l

pub taken-before : (l : Log) → Before l
unfolding arrivals taken_since
taken-before [] = record { others = []; whole = refl }
taken-before (e ∷ l) = go e.seen.requests.granted refl (taken-before l)
  where
    go : (g : Option Timed) → e.seen.requests.granted ≡ g → Before l → Before (e ∷ l)
    go (Some g) x i = record { others = arrivals (e ∷ l); whole = rw x (sym (append-nil (arrivals (e ∷ l)))) }
    go None x i = record { others = i.others; whole = rw (x, i.whole) (append_assoc i.others (taken_since l) _) }
