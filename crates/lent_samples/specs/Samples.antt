-- Samples as they are lent: as an answer has them (document 01, 'Records'), one behind the other.
use Rattle.std.specs.Prelude.{ℕ, ◌/◌, ◌%◌, ◌==◌, Bool, List, drop, length, map, nat_le, slice_index}
use Rattle.std.specs.List.{list_all}
use Rattle.std.specs.Simd.{first_chunks}
use Rattle.base.specs.Choice.{pick}
use Rattle.base.specs.Reply.{Reply, accepted, refused}
use Rattle.base.specs.BigEndian.{number_at}
use Rattle.blheli_telemetry.specs.Frame.{telemetry_of}
use Rattle.esc_lanes.specs.Output.{output_at}
use Rattle.esc_lanes.specs.declared.request.EscTelemetryUpdate.{EscTelemetryUpdate}

-- as many bytes as a sample has
abbrev pub sample_length : ℕ
sample_length = 22

-- L, S, observed T and nine payload bytes
unfoldable pub lent_sample : List ℕ → EscTelemetryUpdate
lent_sample s =
    record {
      output = output_at (slice_index s 0);
      observation =
          record {
            sample = telemetry_of (drop 13 s);
            observed_at_ms = number_at 8 s 5;
            request_sequence = number_at 4 s 1;
          };
    }

-- the bytes of each sample
abbrev pub sample_parts : List ℕ → List (List ℕ)
sample_parts bytes = first_chunks sample_length (length bytes / sample_length) bytes

abbrev pub samples_of : List (List ℕ) → List EscTelemetryUpdate
samples_of parts = map lent_sample parts

abbrev pub samples_in : List ℕ → List EscTelemetryUpdate
samples_in bytes = samples_of (sample_parts bytes)

abbrev pub names_lane : List ℕ → Bool
names_lane s = nat_le (slice_index s 0) 3

-- reading: 5 where the bytes are not whole samples, 6 where one of them names no lane
unfoldable pub read_samples : List ℕ → Reply (List EscTelemetryUpdate)
read_samples bytes =
    pick (length bytes % sample_length == 0)
    (pick (list_all names_lane (sample_parts bytes)) (accepted (samples_in bytes)) (refused 6))
    (refused 5)
