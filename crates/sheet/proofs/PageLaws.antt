-- A page so far: row one and the rows of the first places, each of 54 characters.
use Rattle.std.proofs.Common.{◌≡◌, ℕ, ◌+◌, ◌*◌, ◌≤◌, List, [], ◌++◌, length, refl, sym, ◌∙◌, append-nil, add-one, append_assoc, length-append, arith}
use Rattle.base.specs.BigEndian.{overwrite}
use Rattle.base.proofs.BigEndianLaws.{overwrite-append}
use Rattle.base.proofs.PutLaws.{overwrite-none}
use Rattle.esc_lanes.specs.declared.request.EscTelemetryUpdate.{EscTelemetryUpdate}
use Rattle.airframe.specs.declared.board_map.BoardMap.{BoardMap}
use Rattle.sheet.specs.Pieces.{first_pieces}
use Rattle.sheet.specs.Row.{head_text}
use Rattle.sheet.specs.Page.{places_text, page_text}
use Rattle.sheet.proofs.PiecesLaws.{pieces-more}

-- `text` is in `out` from place `at` on, and is so long
pub record Standing (at : ℕ) (text before out : List ℕ) (long : ℕ) : Type 0 where
  pub contents : out ≡ overwrite at text before
  pub length : length text ≡ long

-- the first row
pub standing-first : (at : ℕ) (head before out : List ℕ) (piece : ℕ → List ℕ) → out ≡ overwrite at head before → length head ≡ 54
    → Standing at (head ++ first_pieces piece 0) before out ((0 + 1) * 54)
standing-first at head before out piece is long =
    record { contents = rw (append-nil head) is; length = rw (append-nil head) long }

-- a row more
pub standing-more : (at place : ℕ) (head before out : List ℕ) (piece : ℕ → List ℕ) (out' : List ℕ)
    → Standing at (head ++ first_pieces piece place) before out ((place + 1) * 54) → out' ≡ overwrite (at + (place + 1) * 54) (piece place) out
    → length (piece place) ≡ 54 → at + (place + 2) * 54 ≤ length before
    → Standing at (head ++ first_pieces piece (place + 1)) before out' ((place + 1 + 1) * 54)
standing-more at place head before out piece out' s is long room =
    let text : List ℕ = head ++ first_pieces piece place in
    let next : head ++ first_pieces piece (place + 1) ≡ text ++ piece place =
    rw (add-one place, pieces-more piece place) (sym (append_assoc head (first_pieces piece place) (piece place))) in
    rw next record {
      contents =
          is ∙ rw (s.contents)
          (overwrite-append at (at + (place + 1) * 54) text (piece place) before (omega (arith, s.length)) (omega (arith, long, room)));
      length = rw (length-append text (piece place), s.length, long) (omega arith);
    }

-- all rows
pub standing-page : (at place number magnets : ℕ) (map : BoardMap) (samples : List EscTelemetryUpdate) (before out : List ℕ)
    → Standing at (head_text number ++ places_text map magnets samples place) before out ((place + 1) * 54) → 40 ≤ place → place ≤ 40
    → Standing at (page_text number map magnets samples) before out 2214
unfolding page_text
standing-page at place number magnets map samples before out s some most =
    let all : place ≡ 40 = omega arith in
    rw all at s

-- a page more
pub standing-next : (k : ℕ) (before out : List ℕ) (piece : ℕ → List ℕ) (out' : List ℕ) → Standing 0 (first_pieces piece k) before out (k * 2214)
    → out' ≡ overwrite (k * 2214) (piece k) out → length (piece k) ≡ 2214 → (k + 1) * 2214 ≤ length before
    → Standing 0 (first_pieces piece (k + 1)) before out' ((k + 1) * 2214)
standing-next k before out piece out' s is long room =
    rw (add-one k, pieces-more piece k) record {
      contents =
          is ∙ rw (s.contents)
          (overwrite-append 0 (k * 2214) (first_pieces piece k) (piece k) before (omega (arith, s.length)) (omega (arith, long, room)));
      length = rw (length-append (first_pieces piece k) (piece k), s.length, long) (omega arith);
    }

pub standing-none : (out : List ℕ) → Standing 0 [] out out 0
standing-none out = record { contents = sym (overwrite-none 0 out); length = refl }
