-- Every page is row one and 40 rows, and every sheet its pages: pieces of one length, each behind those before it.
use Rattle.std.proofs.Common.{◌≡◌, ℕ, zero, suc, ◌+◌, ◌*◌, ◌<◌, List, [], ◌∷◌, ◌++◌, All, length, take, drop, slice_get}
use Rattle.std.proofs.Common.{refl, ap, ap₂, ◌∙◌, arith, length-append, take_at, mul_comm}
use Rattle.std.proofs.lemmas.List.Elements.{All-head, All-tail, All-drop}
use lib.Seq.{drop-append-add}
use Rattle.base.specs.Reply.{accepted}
use Rattle.esc_lanes.specs.declared.request.EscTelemetryUpdate.{EscTelemetryUpdate}
use Rattle.airframe.specs.Speed.{read_magnets}
use Rattle.airframe.specs.declared.board_map.BoardMap.{BoardMap}
use Rattle.lent_samples.specs.SamplesBack.{SampleRanged}
use Rattle.sheet.specs.Pieces.{first_pieces}
use Rattle.sheet.specs.Row.{head_text}
use Rattle.sheet.specs.Page.{place_text, page_text}
use Rattle.sheet.specs.Sheet.{pages_for, page_at, sheet_text}
use Rattle.sheet.specs.RowClaims.{column}
use Rattle.sheet.specs.SheetClaims.{Pages2214, PageRows, RowsInOrder, PagesCount, SheetPages}
use Rattle.sheet.proofs.PiecesLaws.{pieces-same, pieces-long, piece-at}
use Rattle.sheet.proofs.RowLaws.{row-53}

module _ (map : BoardMap) (byte magnets : ℕ) (good : read_magnets byte ≡ accepted magnets) where
  place-long : (samples : List EscTelemetryUpdate) → All SampleRanged samples → (place : ℕ)
      → length (place_text map magnets (slice_get samples place)) ≡ 54
  place-long [] each place = row-53.blank.long
  place-long (u ∷ samples) each zero = (row-53.sample map byte magnets u good (All-head SampleRanged u samples each)).long
  place-long (u ∷ samples) each (suc place) = place-long samples (All-tail SampleRanged u samples each) place

  module _ (samples : List EscTelemetryUpdate) (each : All SampleRanged samples) where
    abbrev row : ℕ → List ℕ
    row place = place_text map magnets (slice_get samples place)

    rows-long : (k : ℕ) → k < 40 → length (row k) ≡ 54
    rows-long k h = place-long samples each k

    page-long : (number : ℕ) → length (page_text number map magnets samples) ≡ 2214
    unfolding page_text
    page-long number =
        length-append (head_text number) (first_pieces row 40)
        ∙ ap₂ (λ (m n : ℕ). m + n) (row-53.head number).long (pieces-long row 54 40 rows-long)

    rows-in-order : (number : ℕ) → PageRows number map magnets samples
    unfolding page_text
    rows-in-order number =
        let head = head_text number in
        let rows : List ℕ = first_pieces row 40 in
        let long = (row-53.head number).long in
        record {
          head = take_at head rows 54 long;
          row = λ place h.
              let behind : 54 * (place + 1) ≡ length head + place * 54 = omega (arith, long) in
              ap (λ (n : ℕ). column n 54 (head ++ rows)) behind ∙ ap (take 54) (drop-append-add head rows (place * 54))
              ∙ piece-at row 54 40 rows-long place h;
        }

pub page-2214 : Pages2214
page-2214 map byte magnets samples good each = page-long map byte magnets good samples each

pub page-rows : RowsInOrder
page-rows map byte magnets samples good each = rows-in-order map byte magnets good samples each

pub pages-count : PagesCount
unfolding pages_for
pages-count = record {
  of-0 = refl;
  of-40 = refl;
  of-41 = refl;
  of-81 = refl;
  some = λ n. omega arith;
  enough = λ n. omega arith;
  few = λ n h. omega arith;
}

-- a page has no more than its 40 samples
slice_get-take : (n k : ℕ) (samples : List EscTelemetryUpdate) → k < n → slice_get samples k ≡ slice_get (take n samples) k
slice_get-take zero k samples h = absurd (omega arith)
slice_get-take (suc n) k [] h = refl
slice_get-take (suc n) zero (u ∷ samples) h = refl
slice_get-take (suc n) (suc k) (u ∷ samples) h = slice_get-take n k samples (omega arith)

pub page-of-40 : (number : ℕ) (map : BoardMap) (magnets : ℕ) (samples : List EscTelemetryUpdate)
    → page_text number map magnets samples ≡ page_text number map magnets (take 40 samples)
unfolding page_text
page-of-40 number map magnets samples =
    ap (λ (l : List ℕ). head_text number ++ l)
    (pieces-same (λ place. place_text map magnets (slice_get samples place)) (λ place. place_text map magnets (slice_get (take 40 samples) place)) 40
    (λ k h. ap (place_text map magnets) (slice_get-take 40 k samples h)))

pub sheet-pages : SheetPages
unfolding sheet_text
sheet-pages map byte magnets samples good each =
    let piece = page_at map magnets samples in
    let pages = pages_for (length samples) in
    let long = λ (k : ℕ) (h : k < pages). page-2214 map byte magnets (drop (k * 40) samples) good (All-drop SampleRanged (k * 40) samples each) (k + 1) in
    record {
      long = pieces-long piece 2214 pages long ∙ mul_comm pages 2214;
      page = λ k h.
          ap (λ (n : ℕ). column n 2214 (first_pieces piece pages)) (mul_comm 2214 k)
          ∙ piece-at piece 2214 pages long k h
          ∙ page-of-40 (k + 1) map magnets (drop (k * 40) samples)
          ∙ ap (λ (n : ℕ). page_text (k + 1) map magnets (take 40 (drop n samples))) (mul_comm k 40);
    }
