-- Document 01's 'Cases for the proved table' that speak of the CRC and the frame, and the frame's layout by a frame in which no two
-- bytes are equal: of the rules themselves, by computation.
use Rattle.std.specs.Prelude.{Some, None}
use mathlib.Core.Path.{◌≡◌, refl}
use mathlib.Core.List.{List, [], ◌∷◌, ◌++◌}
use Prim.Native.Nat.{ℕ}
use lib.ListN.{replicate}
use Rattle.base.specs.Reply.{accepted}
use Rattle.base.specs.BigEndian.{number_at, bytes_of}
use Rattle.blheli_telemetry.specs.Crc.{crc_bit, crc_bits, crc_byte, crc_from, crc_of}
use Rattle.blheli_telemetry.specs.Frame.{telemetry_of, payload_of, frame_of, read_frame}
use Rattle.blheli_telemetry.specs.Stream.{given_after, held_after, parsed_from}
use Rattle.blheli_telemetry.specs.declared.frame.EscTelemetry.{EscTelemetry}

-- a sample of nothing but speed
abbrev turning : ℕ → EscTelemetry
turning erpm =
    record {
      temperature_c = 0;
      voltage_cv = 0;
      current_ca = 0;
      consumption_mah = 0;
      erpm_div100 = erpm;
    }

-- a frame in which no two bytes are equal, and its fields
abbrev pub ten_bytes : List ℕ
ten_bytes = 0x01 ∷ 0x02 ∷ 0x03 ∷ 0x04 ∷ 0x05 ∷ 0x06 ∷ 0x07 ∷ 0x08 ∷ 0x09 ∷ 0x85 ∷ []

abbrev five_fields : EscTelemetry
five_fields =
    record {
      temperature_c = 0x01;
      voltage_cv = 0x0203;
      current_ca = 0x0405;
      consumption_mah = 0x0607;
      erpm_div100 = 0x0809;
    }

pub record FrameCases : Type 0 where
  -- CRC of nothing is 00, of the byte 80 is 89, of ASCII "123456789" is f4
  pub crc-nothing : crc_of [] ≡ 0x00
  pub crc-80 : crc_of (0x80 ∷ []) ≡ 0x89
  pub crc-digits : crc_of (0x31 ∷ 0x32 ∷ 0x33 ∷ 0x34 ∷ 0x35 ∷ 0x36 ∷ 0x37 ∷ 0x38 ∷ 0x39 ∷ []) ≡ 0xf4
  -- from empty: ten 00 are a frame; eight 00, 1e, 5a give eRPM/100 30; with 5b no frame
  pub ten-zeros : parsed_from [] (replicate 10 0x00) ≡ replicate 9 None ++ Some (turning 0) ∷ []
  pub erpm-30 : parsed_from [] (replicate 8 0x00 ++ 0x1e ∷ 0x5a ∷ []) ≡ replicate 9 None ++ Some (turning 30) ∷ []
  pub bad-check : parsed_from [] (replicate 8 0x00 ++ 0x1e ∷ 0x5b ∷ []) ≡ replicate 10 None
  -- ten bytes: temperature; then voltage, current, consumption, eRPM divided by 100, each 16 bits; then CRC-8 of the nine
  pub layout-read : read_frame ten_bytes ≡ accepted five_fields
  pub layout-written : frame_of five_fields ≡ ten_bytes

pub frame-cases : FrameCases
unfolding crc_bit crc_bits crc_byte crc_from crc_of number_at bytes_of telemetry_of payload_of frame_of read_frame given_after held_after parsed_from
frame-cases =
    record {
      crc-nothing = refl;
      crc-80 = refl;
      crc-digits = refl;
      ten-zeros = refl;
      erpm-30 = refl;
      bad-check = refl;
      layout-read = refl;
      layout-written = refl;
    }
