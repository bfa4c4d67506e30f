-- Samples that are refused, and one of distinct bytes that is read: by computation.
use Rattle.std.proofs.Common.{◌≡◌, List, [], ◌∷◌, ℕ, refl, drop}
use Rattle.base.specs.BigEndian.{number_at}
use Rattle.base.specs.Reply.{accepted, refused}
use Rattle.blheli_telemetry.specs.Frame.{telemetry_of}
use Rattle.esc_lanes.specs.declared.output.Lane.TheVariants.{Output3}
use Rattle.lent_samples.specs.Samples.{lent_sample, read_samples}

-- the bytes of a sample of lane 2
abbrev pub sample : List ℕ
sample =
    0x2 ∷ 0x1 ∷ 0x2 ∷ 0x3 ∷ 0x4 ∷ 0x11 ∷ 0x12 ∷ 0x13 ∷ 0x14 ∷ 0x15 ∷ 0x16 ∷ 0x17 ∷ 0x18
    ∷ 0x21 ∷ 0x22 ∷ 0x23 ∷ 0x24 ∷ 0x25 ∷ 0x26 ∷ 0x27 ∷ 0x28 ∷ 0x29 ∷ []

pub record Cases : Type 0 where
  -- a byte short, and a byte more, that is no lane: 5; a lane that no craft has: 6
  pub bytes-21 : read_samples (drop 1 sample) ≡ refused 5
  pub bytes-23 : read_samples (0x04 ∷ sample) ≡ refused 5
  pub lane-4 : read_samples (0x04 ∷ drop 1 sample) ≡ refused 6
  -- no bytes are no samples
  pub none : read_samples [] ≡ accepted []
  -- each byte at its place
  pub fields :
      read_samples sample
      ≡ accepted
      (record {
        output = record { 0 = Output3 };
        observation =
            record {
              sample =
                  record {
                    temperature_c = 0x21;
                    voltage_cv = 0x2223;
                    current_ca = 0x2425;
                    consumption_mah = 0x2627;
                    erpm_div100 = 0x2829;
                  };
              observed_at_ms = 0x1112131415161718;
              request_sequence = 0x01020304;
            };
      } ∷ [])

pub sample-cases : Cases
unfolding lent_sample telemetry_of number_at read_samples
sample-cases = record { bytes-21 = refl; bytes-23 = refl; lane-4 = refl; none = refl; fields = refl }
