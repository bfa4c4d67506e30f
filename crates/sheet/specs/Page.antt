-- A page: 41 rows (document 02, Q-2).
use Rattle.std.specs.Prelude.{ℕ, List, ◌++◌, Option, Some, None, slice_get}
use Rattle.esc_lanes.specs.declared.request.EscTelemetryUpdate.{EscTelemetryUpdate}
use Rattle.airframe.specs.declared.board_map.BoardMap.{BoardMap}
use Rattle.sheet.specs.Pieces.{first_pieces}
use Rattle.sheet.specs.Row.{head_text, row_text, blank_row}

-- as many samples as a page has
abbrev pub page_samples : ℕ
page_samples = 40

-- as many characters as a page has
abbrev pub page_length : ℕ
page_length = 2214

-- the row at a place of the page: its sample's, and a blank one where there is none
abbrev pub place_text : BoardMap → ℕ → Option EscTelemetryUpdate → List ℕ
place_text map magnets (Some u) = row_text map magnets u
place_text map magnets None = blank_row

-- the rows at the first so many places: 'Rows follow the list's order; the last page is filled with blank rows'
abbrev pub places_text : BoardMap → ℕ → List EscTelemetryUpdate → ℕ → List ℕ
places_text map magnets samples n = first_pieces (λ place. place_text map magnets (slice_get samples place)) n

-- row one, and the rows of the first 40 of the samples
unfoldable pub page_text : ℕ → BoardMap → ℕ → List EscTelemetryUpdate → List ℕ
page_text number map magnets samples = head_text number ++ places_text map magnets samples page_samples
