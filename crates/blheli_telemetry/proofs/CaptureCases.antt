-- Where the first good frame of a capture starts, by computation; where several windows are good, that they are.
use Rattle.std.specs.Prelude.{Some, None, map}
use mathlib.Core.Path.{◌≡◌, refl}
use mathlib.Core.Bool.{Bool, true}
use mathlib.Core.List.{List, [], ◌∷◌, ◌++◌}
use Prim.Native.Nat.{ℕ}
use lib.ListN.{replicate, take}
use Rattle.base.specs.BigEndian.{number_at}
use Rattle.blheli_telemetry.specs.Crc.{crc_bit, crc_bits, crc_byte, crc_from, crc_of}
use Rattle.blheli_telemetry.specs.Frame.{telemetry_of, read_frame}
use Rattle.blheli_telemetry.specs.Capture.{window, good, first_frame}
use Rattle.blheli_telemetry.proofs.Cases.{ten_bytes}

abbrev zeros : List ℕ
zeros = replicate 20 0x00

-- a stray byte, and two frames that share nine bytes
abbrev nine_shared : List ℕ
nine_shared = 0xff ∷ ten_bytes ++ 0x68 ∷ []

-- two stray bytes, and two frames that share one
abbrev one_shared : List ℕ
one_shared = 0xff ∷ 0xfe ∷ ten_bytes ++ 0x11 ∷ 0x12 ∷ 0x13 ∷ 0x14 ∷ 0x15 ∷ 0x16 ∷ 0x17 ∷ 0x18 ∷ 0x3a ∷ []

abbrev good_at : List ℕ → List ℕ → List Bool
good_at capture starts = map (λ start. good (window capture start)) starts

pub record CaptureCases : Type 0 where
  pub nothing : first_frame [] ≡ None
  pub nine-bytes : first_frame (take 9 ten_bytes) ≡ None
  pub damaged : first_frame (take 9 ten_bytes ++ 0x86 ∷ 0x85 ∷ []) ≡ None
  pub twenty-zeros : first_frame zeros ≡ Some 0
  pub zeros-good : good_at zeros (0 ∷ 1 ∷ 2 ∷ 3 ∷ 4 ∷ 5 ∷ 6 ∷ 7 ∷ 8 ∷ 9 ∷ 10 ∷ []) ≡ replicate 11 true
  -- the frame ends where the capture does
  pub stray-byte : first_frame (0xff ∷ ten_bytes) ≡ Some 1
  pub nine-shared : first_frame nine_shared ≡ Some 1
  pub nine-shared-good : good_at nine_shared (1 ∷ 2 ∷ []) ≡ replicate 2 true
  pub one-shared : first_frame one_shared ≡ Some 2
  pub one-shared-good : good_at one_shared (2 ∷ 11 ∷ []) ≡ replicate 2 true

pub capture-cases : CaptureCases
unfolding crc_bit crc_bits crc_byte crc_from crc_of number_at telemetry_of read_frame first_frame
capture-cases =
    record {
      nothing = refl;
      nine-bytes = refl;
      damaged = refl;
      twenty-zeros = refl;
      zeros-good = refl;
      stray-byte = refl;
      nine-shared = refl;
      nine-shared-good = refl;
      one-shared = refl;
      one-shared-good = refl;
    }
