-- The sheet: the pages of a list of samples, and writing it into a lent output (document 02, Q-2).
use Rattle.std.specs.Prelude.{ℕ, ◌+◌, ◌*◌, ◌/◌, List, drop, length, max, nat_le}
use Rattle.base.specs.Choice.{pick}
use Rattle.base.specs.Reply.{Reply, accepted, refused, converted, is_accepted}
use Rattle.base.specs.BigEndian.{overwrite}
use Rattle.esc_lanes.specs.declared.request.EscTelemetryUpdate.{EscTelemetryUpdate}
use Rattle.airframe.specs.Speed.{read_magnets}
use Rattle.airframe.specs.declared.board_map.BoardMap.{BoardMap}
use Rattle.lent_samples.specs.Samples.{sample_length, samples_in, read_samples}
use Rattle.sheet.specs.Pieces.{first_pieces}
use Rattle.sheet.specs.Page.{page_samples, page_length, page_text}

-- how many pages so many samples take: 'No samples give one page, and 41 samples give two'
unfoldable pub pages_for : ℕ → ℕ
pages_for n = max 1 ((n + 39) / page_samples)

-- the page at a place, from 0
abbrev pub page_at : BoardMap → ℕ → List EscTelemetryUpdate → ℕ → List ℕ
page_at map magnets samples k = page_text (k + 1) map magnets (drop (k * page_samples) samples)

-- the first so many pages
abbrev pub pages_text : BoardMap → ℕ → List EscTelemetryUpdate → ℕ → List ℕ
pages_text map magnets samples n = first_pieces (page_at map magnets samples) n

unfoldable pub sheet_text : BoardMap → ℕ → List EscTelemetryUpdate → List ℕ
sheet_text map magnets samples = pages_text map magnets samples (pages_for (length samples))

-- how much the sheet of samples takes; 9 where there is less room, 11 for the magnets
abbrev pub length_in : Reply (List EscTelemetryUpdate) → ℕ → ℕ → Reply ℕ
length_in (refused n) magnets room = refused n
length_in (accepted samples) magnets room =
    let n = pages_for (length samples) * page_length in
    pick (nat_le n room) (converted (λ m. n) (read_magnets magnets)) (refused 9)

-- the length of a sheet, with the magnets that it is for
abbrev pub with_magnets : ℕ → ℕ → ℕ × ℕ
with_magnets magnets n = (n, magnets)

-- writing a sheet: the lowest of 5, 6, 9 and 11, or how much is written
unfoldable pub sheet_reply : List ℕ → ℕ → ℕ → Reply ℕ
sheet_reply bytes magnets room = length_in (read_samples bytes) magnets room

-- the lent output afterwards: the sheet from its first entry on, and the rest as found; all as found where it is refused
unfoldable pub sheet_output : List ℕ → BoardMap → ℕ → List ℕ → List ℕ
sheet_output bytes map magnets out =
    pick (is_accepted (sheet_reply bytes magnets (length out))) (overwrite 0 (sheet_text map magnets (samples_in bytes)) out) out

-- writing a page of at most 40 samples: 5 for more
unfoldable pub page_reply : List ℕ → ℕ → ℕ → Reply ℕ
page_reply bytes magnets room = pick (nat_le (length bytes) (page_samples * sample_length)) (sheet_reply bytes magnets room) (refused 5)

unfoldable pub page_output : ℕ → List ℕ → BoardMap → ℕ → List ℕ → List ℕ
page_output number bytes map magnets out =
    pick (is_accepted (page_reply bytes magnets (length out))) (overwrite 0 (page_text number map magnets (samples_in bytes)) out) out
