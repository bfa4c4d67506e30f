-- A sheet grows by pages: its full pages stay when samples are added, since a page shows no more than its own 40.
use Rattle.std.proofs.Common.{◌≡◌, ℕ, ◌+◌, ◌*◌, ◌%◌, ◌<◌, ◌≤◌, List, ◌++◌, length, drop, refl, ap, sym, ◌∙◌, arith, length-drop}
use Rattle.std.proofs.lemmas.List.{drop-append-le, take-append-le}
use Rattle.esc_lanes.specs.declared.request.EscTelemetryUpdate.{EscTelemetryUpdate}
use Rattle.airframe.specs.declared.board_map.BoardMap.{BoardMap}
use Rattle.sheet.specs.Row.{head_text}
use Rattle.sheet.specs.Page.{page_text}
use Rattle.sheet.specs.Sheet.{page_at, pages_text}
use Rattle.sheet.proofs.PiecesLaws.{pieces-same}
use Rattle.sheet.proofs.Pages.{page-of-40}

-- a page shows its first 40 samples alone
page-front : (number : ℕ) (map : BoardMap) (magnets : ℕ) (samples more : List EscTelemetryUpdate) → 40 ≤ length samples
    → page_text number map magnets (samples ++ more) ≡ page_text number map magnets samples
page-front number map magnets samples more full =
    page-of-40 number map magnets (samples ++ more) ∙ ap (page_text number map magnets) (take-append-le 40 samples more full)
    ∙ sym (page-of-40 number map magnets samples)

pub pages-front : (map : BoardMap) (magnets : ℕ) (samples more : List EscTelemetryUpdate) (n : ℕ) → n * 40 ≤ length samples
    → pages_text map magnets (samples ++ more) n ≡ pages_text map magnets samples n
pages-front map magnets samples more n full = pieces-same _ _ n same
  where
    same : (k : ℕ) → k < n → page_at map magnets (samples ++ more) k ≡ page_at map magnets samples k
    same k h =
        ap (page_text (k + 1) map magnets) (drop-append-le (k * 40) samples more (omega arith))
        ∙ page-front (k + 1) map magnets (drop (k * 40) samples) more (simp length-drop (omega arith))

-- the number is printed modulo 1,000,000
pub page-number : (number : ℕ) (map : BoardMap) (magnets : ℕ) (samples : List EscTelemetryUpdate)
    → page_text (number % 1_000_000) map magnets samples ≡ page_text number map magnets samples
unfolding page_text head_text
page-number number map magnets samples =
    let twice : number % 1_000_000 % 1_000_000 ≡ number % 1_000_000 = omega arith in
    rw twice refl
