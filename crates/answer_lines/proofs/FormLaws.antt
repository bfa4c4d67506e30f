-- What fits a form has its length, and its bounds hold; and what fits one of several fits it.
use Rattle.std.proofs.Common.{◌≡◌, ℕ, ◌≤◌, Bool, true, false, ◌||◌, eqb, List, [], ◌∷◌, length, get_or, refl, arith, eqb-true}
use Rattle.std.proofs.lemmas.Bool.Decides.{nat_tests}
use Rattle.std.specs.List.{list_all}
use Rattle.base.proofs.Both.{and_left, and_right}
use Rattle.answer_lines.specs.Form.{Bounded, Form, is_within, has_form, fits_one, deliveries}

-- the bounds as facts
abbrev pub Within : List ℕ → List Bounded → Type 0
Within s [] = Unit {0}
Within s (b ∷ bounds) = ((b.lowest ≤ get_or s b.place 0) × (get_or s b.place 0 ≤ b.highest)) × Within s bounds

pub record Fits (s : List ℕ) (f : Form) : Type 0 where
  pub long : length s ≡ f.long
  pub within : Within s f.bounds

within-fits : (s : List ℕ) (bounds : List Bounded) → list_all (is_within s) bounds ≡ true → Within s bounds
within-fits s [] e = tt
within-fits s (b ∷ bounds) e =
    let here : is_within s b ≡ true = and_left (is_within s b) _ e in
    ((grind (arith, nat_tests, here), grind (arith, nat_tests, here)), within-fits s bounds (and_right (is_within s b) _ e))

form-fits : (s : List ℕ) (f : Form) → has_form s f ≡ true → Fits s f
unfolding has_form
form-fits s f e =
    record {
      long = eqb-true _ _ (and_left (eqb (length s) f.long) _ e);
      within = within-fits s f.bounds (and_right (eqb (length s) f.long) _ e);
    }

-- something follows from each form
abbrev pub FromEach : (P : Type 0) → List ℕ → List Form → Type 0
FromEach P s [] = Unit {0}
FromEach P s (f ∷ forms) = (Fits s f → P) × FromEach P s forms

pub from-one : {P : Type 0} (s : List ℕ) (forms : List Form) → FromEach P s forms → fits_one forms s ≡ true → P
unfolding fits_one
from-one s [] each e = absurd cc
from-one {P} s (f ∷ forms) each e = go (has_form s f) refl e (from-one s forms each.1)
  where
    go : (b : Bool) → has_form s f ≡ b → (b || fits_one forms s) ≡ true → (fits_one forms s ≡ true → P) → P
    go true here e later = each.0 (form-fits s f here)
    go false here e later = later e

pub delivery_long : (s : List ℕ) → fits_one deliveries s ≡ true → 25 ≤ length s
delivery_long s e = from-one s deliveries ((λ f. omega (arith, f.long)), ((λ f. omega (arith, f.long)), ((λ f. omega (arith, f.long)), tt))) e
