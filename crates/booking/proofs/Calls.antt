-- The calls that live lists are made of: records by their bytes, with room for any answer.
use mathlib.Core.List.{List, [], ◌∷◌, ◌++◌, map}
use Prim.Native.Nat.{ℕ}
use lib.ListN.{replicate}
use Rattle.base.specs.BigEndian.{bytes_of}
use Rattle.blheli_telemetry.specs.Crc.{crc_of}
use Rattle.esc_answers.specs.Answer.{longest_answer}
use Rattle.booking.specs.History.{Call}

-- with room to spare
abbrev pub roomy : List ℕ → Call
roomy bytes = record { bytes = bytes; room = longest_answer }

-- with a boot delay, a period, an acknowledgement timeout and a time; response timeout 100, quiet time 500
abbrev pub open_with : ℕ → ℕ → ℕ → ℕ → List ℕ
open_with delay period ack_timeout t =
    0x00 ∷ (bytes_of 4 delay ++ (bytes_of 4 period ++ (bytes_of 4 ack_timeout ++ (bytes_of 4 100 ++ (bytes_of 4 500 ++ bytes_of 8 t)))))

-- no boot delay and no period; acknowledgement timeout 20
abbrev pub open' : List ℕ
open' = open_with 0 0 20 0

abbrev pub queue : ℕ → ℕ → ℕ → List ℕ
queue s l t = 0x02 ∷ (bytes_of 4 s ++ l ∷ bytes_of 8 t)

abbrev pub acknowledge : ℕ → ℕ → ℕ → ℕ → List ℕ
acknowledge s l started t = 0x03 ∷ (bytes_of 4 s ++ l ∷ (bytes_of 8 started ++ bytes_of 8 t))

abbrev pub poll : ℕ → List ℕ
poll t = 0x04 ∷ bytes_of 8 t

abbrev pub byte : ℕ → ℕ → List ℕ
byte t b = 0x05 ∷ b ∷ bytes_of 8 t

abbrev pub cut_wire : List ℕ
cut_wire = 0x06 ∷ []

abbrev pub recover : ℕ → List ℕ
recover t = 0x07 ∷ 0x00 ∷ bytes_of 8 t

-- eight 00, 1e and 5a are a frame (document 01, 'Cases for the proved table')
abbrev pub nine : List ℕ
nine = replicate 8 0x00 ++ 0x1e ∷ []

-- a frame of nothing but speed
abbrev pub frame : ℕ → ℕ → List (List ℕ)
frame t erpm = map (byte t) (replicate 8 0x00 ++ erpm ∷ crc_of (replicate 8 0x00 ++ erpm ∷ []) ∷ [])
