-- The bytes taken in since the latest 02 answered yes, and ten of them that are a frame.
use Rattle.std.specs.Prelude.{ℕ, ◌≡◌, Bool, true, ◌&&◌, List, [], ◌∷◌, ◌++◌, map, length}
use Rattle.std.specs.Prelude.{Option, is_some}
use Rattle.base.specs.Choice.{pick}
use Rattle.blheli_telemetry.specs.Crc.{crc_of}
use Rattle.attribution.specs.Marks.{Log}
use Rattle.attribution.specs.Origin.{Arrival, arrival_in}

-- oldest first; all bytes, where no 02 was answered yes
unfoldable pub taken_since : Log → List Arrival
taken_since [] = []
taken_since (e ∷ l) = pick (is_some e.seen.requests.granted) [] (taken_since l ++ arrival_in e.origin e.seen.wire.byte)

abbrev pub values_of : List Arrival → List ℕ
values_of ts = map (λ (t : Arrival). t.byte.value) ts

-- the origin of each of them passes a test
abbrev pub each : (Option ℕ → Bool) → List Arrival → Bool
each test [] = true
each test (t ∷ ts) = test t.origin && each test ts

-- nine bytes and their check byte
pub record Ten : Type 0 where
  pub nine : List Arrival
  pub tenth : Arrival
  pub count : length nine ≡ 9
  pub checks : tenth.byte.value ≡ crc_of (values_of nine)

abbrev pub all : Ten → List Arrival
all t = t.nine ++ t.tenth ∷ []

-- some bytes stand among others one after another, with none between them
pub record InARow (part whole : List Arrival) : Type 0 where
  pub before : List Arrival
  pub after : List Arrival
  pub place : whole ≡ before ++ (part ++ after)
