-- The lowest number that fits, of the map's and the sheet's.
use Rattle.std.proofs.Common.{◌≡◌, ℕ, Bool, true, false, List, length, refl, ap, eq-eqb, ne_eqb, arith}
use Rattle.base.specs.Reply.{Reply, accepted, refused}
use Rattle.base.specs.Choice.{pick}
use Rattle.airframe.specs.Once.{each_once}
use Rattle.airframe.specs.BoardMap.{map_of, read_map}
use Rattle.airframe.specs.declared.board_map.BoardMap.{BoardMap}
use Rattle.sheet.specs.Sheet.{sheet_reply}
use Rattle.sheet.proofs.SheetLaws.{refused-between, output-refused}
use Rattle.c_calls.specs.BoardMap.{together}
use Rattle.c_calls.specs.Sheet.{map_sheet_reply, map_sheet_on, map_sheet_output}

module _ (samples map : List ℕ) (magnets : ℕ) (out : List ℕ) where
  -- a map that is not four bytes
  pub short-map : (length map ≡ 4 → ⊥) → map_sheet_reply samples map magnets (length out) ≡ refused 5
  unfolding read_map
  short-map n = rw (ne_eqb (length map) 4 n) (lowest (sheet_reply samples magnets (length out)) refl)
    where
      lowest : (r : Reply ℕ) → sheet_reply samples magnets (length out) ≡ r → together {A = BoardMap} {B = ℕ} {C = ℕ} (λ m n. n) (refused 5) r ≡ refused 5
      lowest (accepted len) e = refl
      lowest (refused n) e = let bounds = refused-between samples magnets (length out) n e in ap refused (omega (arith, bounds))

  pub short-left : (length map ≡ 4 → ⊥) → map_sheet_output samples map magnets out ≡ out
  unfolding read_map
  short-left n = rw (ne_eqb (length map) 4 n) refl

  -- a sheet that is refused, for a map of four bytes
  pub no-sheet : (n : ℕ) → length map ≡ 4 → sheet_reply samples magnets (length out) ≡ refused n → map_sheet_reply samples map magnets (length out) ≡ refused n
  unfolding read_map
  no-sheet n four e = rw (eq-eqb (length map) 4 four, e) (go (each_once map))
    where
      go : (once : Bool) → together {A = BoardMap} {B = ℕ} {C = ℕ} (λ m n. n) (pick once (accepted (map_of map)) (refused 12)) (refused n) ≡ refused n
      go true = refl
      go false = let bounds = refused-between samples magnets (length out) n e in ap refused (omega (arith, bounds))

  -- wherever the sheet is refused, nothing is written
  pub nothing-left : (n : ℕ) → sheet_reply samples magnets (length out) ≡ refused n → map_sheet_output samples map magnets out ≡ out
  nothing-left n e = go (read_map map)
    where
      go : (r : Reply BoardMap) → map_sheet_on r samples magnets out ≡ out
      go (accepted m) = output-refused samples m magnets n out e
      go (refused m) = refl
