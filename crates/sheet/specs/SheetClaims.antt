-- What holds of every page and of every sheet (document 02, Q-2). In proofs/, `page-2214`, `page-rows`, `pages-count` and `sheet-pages`
-- say that it does.
use Rattle.std.specs.Prelude.{◌≡◌, ℕ, ◌+◌, ◌-◌, ◌*◌, ◌<◌, ◌≤◌, All, List, drop, length, slice_get, take}
use Rattle.base.specs.Reply.{accepted}
use Rattle.esc_lanes.specs.declared.request.EscTelemetryUpdate.{EscTelemetryUpdate}
use Rattle.airframe.specs.Speed.{read_magnets}
use Rattle.airframe.specs.declared.board_map.BoardMap.{BoardMap}
use Rattle.lent_samples.specs.SamplesBack.{SampleRanged}
use Rattle.sheet.specs.Row.{head_text}
use Rattle.sheet.specs.Page.{place_text, page_text}
use Rattle.sheet.specs.Sheet.{pages_for, sheet_text}
use Rattle.sheet.specs.RowClaims.{column}

-- of a map, a count of magnets that is accepted and samples of the values that their types have
abbrev pub Always : (BoardMap → ℕ → List EscTelemetryUpdate → Type 0) → Type 0
Always Holds = (map : BoardMap) (byte magnets : ℕ) (samples : List EscTelemetryUpdate) → read_magnets byte ≡ accepted magnets
    → All SampleRanged samples → Holds map magnets samples

-- 'A page is 41 rows of 53 characters and an LF', whatever its number
abbrev pub Pages2214 : Type 0
Pages2214 = Always (λ map magnets samples. (number : ℕ) → length (page_text number map magnets samples) ≡ 2_214)

-- 'Rows follow the list's order; the last page is filled with blank rows': behind row one, the row at each place is that of the sample
-- at this place of the list, or a blank one
pub record PageRows (number : ℕ) (map : BoardMap) (magnets : ℕ) (samples : List EscTelemetryUpdate) : Type 0 where
  pub head : column 0 54 (page_text number map magnets samples) ≡ head_text number
  pub row : (place : ℕ) → place < 40
      → column (54 * (place + 1)) 54 (page_text number map magnets samples) ≡ place_text map magnets (slice_get samples place)

abbrev pub RowsInOrder : Type 0
RowsInOrder = Always (λ map magnets samples. (number : ℕ) → PageRows number map magnets samples)

-- 'No samples give one page, and 41 samples give two'; at least one, as many as the samples need, and no more
pub record PagesCount : Type 0 where
  pub of-0 : pages_for 0 ≡ 1
  pub of-40 : pages_for 40 ≡ 1
  pub of-41 : pages_for 41 ≡ 2
  pub of-81 : pages_for 81 ≡ 3
  pub some : (n : ℕ) → 1 ≤ pages_for n
  pub enough : (n : ℕ) → n ≤ 40 * pages_for n
  pub few : (n : ℕ) → 0 < n → 40 * (pages_for n - 1) < n

-- a sheet is its pages, each of the next 40 samples, numbered from 1
pub record PagesInOrder (map : BoardMap) (magnets : ℕ) (samples : List EscTelemetryUpdate) : Type 0 where
  pub long : length (sheet_text map magnets samples) ≡ 2_214 * pages_for (length samples)
  pub page : (k : ℕ) → k < pages_for (length samples)
      → column (2_214 * k) 2_214 (sheet_text map magnets samples) ≡ page_text (k + 1) map magnets (take 40 (drop (40 * k) samples))

abbrev pub SheetPages : Type 0
SheetPages = Always PagesInOrder
