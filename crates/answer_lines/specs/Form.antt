-- The forms of an answer's bytes (document 01, 'Records'): how long it is, and what may stand at each place where not every byte may.
-- `answer_bytes` of `esc_answers` has the fields; that these forms are its answers, and no others, is in `Claims`.
use Rattle.std.specs.Prelude.{ℕ, Bool, ◌&&◌, List, [], ◌∷◌, nat_eq, nat_le, length, slice_index}
use Rattle.std.specs.List.{list_all, list_any}

-- of a place: the lowest byte that may stand there, and the highest
pub record Bounded : Type 0 where
  pub place : ℕ
  pub lowest : ℕ
  pub highest : ℕ

-- as many bytes, and the places where not each may stand
pub record Form : Type 0 where
  pub long : ℕ
  pub bounds : List Bounded

-- in short: a form; a place from one byte to another; a place of one byte
abbrev pub form : ℕ → List Bounded → Form
form long bounds = record { long = long; bounds = bounds }

abbrev pub from_to : ℕ → ℕ → ℕ → Bounded
from_to lowest highest place = record { place = place; lowest = lowest; highest = highest }

abbrev pub only : ℕ → ℕ → Bounded
only byte place = from_to byte byte place

-- 00 no or 01 yes
abbrev pub a_flag : ℕ → Bounded
a_flag place = from_to 0x00 0x01 place

-- a lane's number
abbrev pub a_lane : ℕ → Bounded
a_lane place = from_to 0x00 0x03 place

-- bytes are of a form where they are as many, and each bound holds
abbrev pub is_within : List ℕ → Bounded → Bool
is_within s b = nat_le b.lowest (slice_index s b.place) && nat_le (slice_index s b.place) b.highest

unfoldable pub has_form : List ℕ → Form → Bool
has_form s f = nat_eq (length s) f.long && list_all (is_within s) f.bounds

unfoldable pub fits_one : List Form → List ℕ → Bool
fits_one forms s = list_any (has_form s) forms

-- 00 02 and a sample (22), of which the first byte is L; behind it the idle status: 00 to 03 alone, 04 L eRPM (2), 05 four counts
abbrev pub deliveries : List Form
deliveries =
    form 25 (only 0x00 0 ∷ only 0x02 1 ∷ a_lane 2 ∷ from_to 0x00 0x03 24 ∷ [])
    ∷ form 28 (only 0x00 0 ∷ only 0x02 1 ∷ a_lane 2 ∷ only 0x04 24 ∷ a_lane 25 ∷ [])
    ∷ form 29 (only 0x00 0 ∷ only 0x02 1 ∷ a_lane 2 ∷ only 0x05 24 ∷ [])
    ∷ []

abbrev pub other_answers : List Form
other_answers =
    -- 00, or a refusal's number
    form 1 (from_to 0x00 0x0c 0 ∷ [])
    -- 00 no, none or rejected, 01 yes or accepted; an idle status of one byte
    ∷ form 2 (only 0x00 0 ∷ from_to 0x00 0x03 1 ∷ [])
    -- overspeed: L eRPM (2)
    ∷ form 5 (only 0x00 0 ∷ only 0x04 1 ∷ a_lane 2 ∷ [])
    -- back after retries: a count (4)
    ∷ form 6 (only 0x00 0 ∷ only 0x01 1 ∷ [])
    -- timeout of the idle check: four counts
    ∷ form 6 (only 0x00 0 ∷ only 0x05 1 ∷ [])
    -- a request, or the one that timed out: S (4) L
    ∷ form 7 (only 0x00 0 ∷ from_to 0x01 0x02 1 ∷ a_lane 6 ∷ [])
    -- figures
    ∷ form 8 (only 0x00 0 ∷ [])
    -- a stored sample shown again
    ∷ form 24 (only 0x00 0 ∷ only 0x01 1 ∷ a_lane 2 ∷ [])
    -- the report: faulted, retrying, ten counts (4)
    ∷ form 43 (only 0x00 0 ∷ a_flag 1 ∷ a_flag 2 ∷ [])
    ∷ []
