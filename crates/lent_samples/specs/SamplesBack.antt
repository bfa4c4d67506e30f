-- Reading samples and writing them undo each other. In proofs/, `samples-back` and `bytes-back` say that they do.
use Rattle.std.specs.Prelude.{◌≡◌, ℕ, ◌<◌, ◌≤◌, ◌^◌, true, All, List, length, slice_index, flat_map}
use Rattle.base.specs.Bytes.{are_bytes}
use Rattle.base.specs.Reply.{accepted}
use Rattle.blheli_telemetry.specs.Frame.{Ranged}
use Rattle.esc_lanes.specs.declared.request.EscTelemetryUpdate.{EscTelemetryUpdate}
use Rattle.esc_answers.specs.Answer.{sample_bytes}
use Rattle.lent_samples.specs.Samples.{sample_length, lent_sample, samples_in, read_samples}

-- the values that the fields' types have
pub record SampleRanged (u : EscTelemetryUpdate) : Type 0 where
  pub sequence : u.observation.request_sequence < 2 ^ 32
  pub time : u.observation.observed_at_ms < 2 ^ 64
  pub telemetry : Ranged u.observation.sample

-- samples as an answer has them (document 01, 'Records'), one behind the other
abbrev pub samples_bytes : List EscTelemetryUpdate → List ℕ
samples_bytes us = flat_map sample_bytes us

-- the bytes of any samples are read as these, in their order
pub record ReadBack (us : List EscTelemetryUpdate) : Type 0 where
  pub reply : read_samples (samples_bytes us) ≡ accepted us
  pub samples : samples_in (samples_bytes us) ≡ us

abbrev pub SamplesBack : Type 0
SamplesBack = (us : List EscTelemetryUpdate) → All SampleRanged us → ReadBack us

-- a sample that was read of 22 bytes that name a lane has these bytes
abbrev pub BytesBack : Type 0
BytesBack = (s : List ℕ) → length s ≡ sample_length → are_bytes s ≡ true → slice_index s 0 ≤ 3 → sample_bytes (lent_sample s) ≡ s
