-- Four lanes: a list with an entry for each, and what a change of one entry makes of it.
use mathlib.Core.Path.{◌≡◌, refl, sym, ◌∙◌, ap, fun_ext}
use mathlib.Core.Bool.{Bool, true, false}
use mathlib.Core.List.{List, [], ◌∷◌}
use Prim.Native.Nat.{ℕ}
use lib.Dec.{eqb}
use lib.ListN.{get_or, set}
use Rattle.base.specs.Choice.{pick}
use Rattle.esc_lanes.specs.Output.{lane_number}
use Rattle.esc_lanes.specs.declared.output.Lane.{Lane}
use Rattle.esc_lanes.specs.declared.output.Lane.TheVariants.{Output1, Output2, Output3, Output4}

abbrev pub four : {A : Type 0} → (Lane → A) → List A
four f = f Output1 ∷ f Output2 ∷ f Output3 ∷ f Output4 ∷ []

pub at-four : {A : Type 0} (d : A) (f : Lane → A) (l : Lane) → get_or (four f) (lane_number l) d ≡ f l
at-four d f Output1 = refl
at-four d f Output2 = refl
at-four d f Output3 = refl
at-four d f Output4 = refl

pub set-four : {A : Type 0} (f : Lane → A) (l : Lane) (x : A) → set (four f) (lane_number l) x ≡ four (λ k. pick (eqb (lane_number l) (lane_number k)) x (f k))
set-four f Output1 x = refl
set-four f Output2 x = refl
set-four f Output3 x = refl
set-four f Output4 x = refl

-- the entry of one lane changed
pub change-four : {A : Type 0} (d : A) (f : Lane → A) (g : A → A) (l : Lane)
    → set (four f) (lane_number l) (g (get_or (four f) (lane_number l) d)) ≡ four (λ k. pick (eqb (lane_number l) (lane_number k)) (g (f k)) (f k))
change-four d f g Output1 = refl
change-four d f g Output2 = refl
change-four d f g Output3 = refl
change-four d f g Output4 = refl

-- where each entry is made of what is kept for its lane
pub change-kept : {A B : Type 0} (d : A) (m : B → A) (f : Lane → B) (g : A → A) (y : B → B) (l : Lane) → ((x : B) → g (m x) ≡ m (y x))
    → set (four (λ k. m (f k))) (lane_number l) (g (get_or (four (λ k. m (f k))) (lane_number l) d))
    ≡ four (λ k. m (pick (eqb (lane_number l) (lane_number k)) (y (f k)) (f k)))
change-kept {A} {B} d m f g y l e = change-four d (λ k. m (f k)) g l ∙ ap four (fun_ext (λ k. go (eqb (lane_number l) (lane_number k)) (f k)))
  where
    go : (b : Bool) (x : B) → pick b (g (m x)) (m x) ≡ m (pick b (y x) x)
    go true x = e x
    go false x = refl

-- a lane is known by its number
abbrev lane_at : ℕ → Lane
lane_at n = get_or (Output1 ∷ Output2 ∷ Output3 ∷ Output4 ∷ []) n Output1

lane-back : (l : Lane) → lane_at (lane_number l) ≡ l
lane-back Output1 = refl
lane-back Output2 = refl
lane-back Output3 = refl
lane-back Output4 = refl

pub lane-eq : (a b : Lane) → lane_number a ≡ lane_number b → a ≡ b
lane-eq a b e = sym (lane-back a) ∙ ap lane_at e ∙ lane-back b
