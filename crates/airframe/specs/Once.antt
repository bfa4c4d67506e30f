-- How often a byte stands in a list, and a list that has each motor's number once.
use Rattle.std.specs.Prelude.{ℕ, Bool, List, [], ◌∷◌, ◌==◌, count_by}
use Rattle.std.specs.List.{list_all}

abbrev pub times : ℕ → List ℕ → ℕ
times byte s = count_by (λ x. x == byte) s

-- each of 1 to 4 once
unfoldable pub each_once : List ℕ → Bool
each_once s = list_all (λ motor. times motor s == 1) (1 ∷ 2 ∷ 3 ∷ 4 ∷ [])
