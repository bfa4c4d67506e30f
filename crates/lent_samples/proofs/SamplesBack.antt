-- Each field of a sample stands at its place among the sample's bytes, so that each is read back from there.
use Rattle.std.proofs.Common.{◌≡◌, ℕ, zero, suc, true, ◌+◌, ◌%◌, ◌<◌, ◌≤◌, List, [], ◌∷◌, ◌++◌, All, length, get_or, drop, map, flat_map, leb}
use Rattle.std.proofs.Common.{refl, sym, ap, arith, take-append-drop, drop-drop, drop-cons, get_or-drop, length-drop, take_all}
use Rattle.std.specs.List.{list_all}
use Rattle.std.proofs.lemmas.List.Elements.{All-head, All-tail, All-nil, All-cons}
use Rattle.base.specs.BigEndian.{number_at, bytes_of}
use Rattle.base.proofs.BigEndianLaws.{bytes-number}
use Rattle.base.proofs.BytesLaws.{bytes_below}
use Rattle.blheli_telemetry.specs.Frame.{telemetry_of, payload_of, frame_of, Ranged}
use Rattle.blheli_telemetry.specs.declared.frame.EscTelemetry.{EscTelemetry}
use Rattle.blheli_telemetry.proofs.FrameLaws.{read-accepted}
use Rattle.blheli_telemetry.proofs.RoundTrip.{read-written}
use Rattle.esc_lanes.specs.Output.{lane_number, lane_of, output_at}
use Rattle.esc_lanes.specs.declared.output.Lane.{Lane}
use Rattle.esc_lanes.specs.declared.output.Lane.TheVariants.{Output1, Output2, Output3, Output4}
use Rattle.esc_lanes.specs.declared.request.EscTelemetryUpdate.{EscTelemetryUpdate}
use Rattle.esc_answers.specs.Answer.{sample_bytes}
use Rattle.lent_samples.specs.Samples.{lent_sample, samples_of, names_lane}
use Rattle.lent_samples.specs.SamplesBack.{SampleRanged, samples_bytes, SamplesBack, BytesBack}
use Rattle.lent_samples.proofs.PartsBack.{Long, pieces-length, parts-back}
use Rattle.lent_samples.proofs.NumberBack.{number-back}
use Rattle.lent_samples.proofs.SamplesLaws.{read-whole}

-- a lane has a number, by which it is found
lane-known : (l : Lane) → (output_at (lane_number l) ≡ record { 0 = l }) × (leb (lane_number l) 3 ≡ true)
lane-known Output1 = (refl, refl)
lane-known Output2 = (refl, refl)
lane-known Output3 = (refl, refl)
lane-known Output4 = (refl, refl)

pub lane-back : (n : ℕ) → n ≤ 3 → lane_of (output_at n) ≡ n
lane-back zero h = refl
lane-back (suc zero) h = refl
lane-back (suc (suc zero)) h = refl
lane-back (suc (suc (suc zero))) h = refl
lane-back (suc (suc (suc (suc n)))) h = absurd (omega arith)

-- the payload of a frame, with no check byte behind it, is read as the frame is
telemetry-back : (t : EscTelemetry) → Ranged t → telemetry_of (payload_of t) ≡ t
unfolding frame_of payload_of bytes_of telemetry_of number_at
telemetry-back t r = (read-accepted (frame_of t) t (read-written t r)).telemetry

sample-long : (u : EscTelemetryUpdate) → length (sample_bytes u) ≡ 22
unfolding sample_bytes payload_of bytes_of
sample-long u = refl

pub sample-back : (u : EscTelemetryUpdate) → SampleRanged u → lent_sample (sample_bytes u) ≡ u
unfolding lent_sample sample_bytes bytes_of
sample-back u r =
    let lane = lane_of u.output in
    let o = u.observation in
    let payload = payload_of o.sample in
    let sequence = number-back 4 o.request_sequence 1 (lane ∷ []) (bytes_of 8 o.observed_at_ms ++ payload) refl (omega (arith, r.sequence)) in
    let time = number-back 8 o.observed_at_ms 5 (lane ∷ bytes_of 4 o.request_sequence) payload refl (omega (arith, r.time)) in
    rw ((lane-known u.output.0).0, sequence, time, telemetry-back o.sample r.telemetry) refl

first-lane : (u : EscTelemetryUpdate) → names_lane (sample_bytes u) ≡ true
unfolding sample_bytes
first-lane u = (lane-known u.output.0).1

-- the pieces that samples are written as
record Written (us : List EscTelemetryUpdate) : Type 0 where
  back : samples_of (map sample_bytes us) ≡ us
  lanes : list_all names_lane (map sample_bytes us) ≡ true
  long : All (Long 22) (map sample_bytes us)

written : (us : List EscTelemetryUpdate) → All SampleRanged us → Written us
written [] each = record { back = refl; lanes = refl; long = All-nil (Long 22) }
written (u ∷ us) each =
    let rest = written us (All-tail SampleRanged u us each) in
    record {
      back = rw (sample-back u (All-head SampleRanged u us each), rest.back) refl;
      lanes = rw (first-lane u, rest.lanes) refl;
      long = All-cons (Long 22) (sample_bytes u) (map sample_bytes us) (sample-long u) rest.long;
    }

in-pieces : (us : List EscTelemetryUpdate) → samples_bytes us ≡ flat_map (λ p. p) (map sample_bytes us)
in-pieces [] = refl
in-pieces (u ∷ us) = ap (λ (l : List ℕ). sample_bytes u ++ l) (in-pieces us)

pub samples-back : SamplesBack
samples-back us each =
    let known = written us each in
    let pieces = map sample_bytes us in
    let whole : length (flat_map (λ p. p) pieces) % 22 ≡ 0 = omega (arith, pieces-length 22 pieces known.long) in
    let parts = parts-back pieces known.long in
    let same = in-pieces us in
    record {
      reply = rw (same, read-whole (flat_map (λ p. p) pieces) whole (rw parts known.lanes), parts, known.back) refl;
      samples = rw (same, parts, known.back) refl;
    }

-- nine bytes are the payload of what they spell
payload-back : (d : List ℕ) → length d ≡ 9 → ((k : ℕ) → get_or d k 0 < 256) → payload_of (telemetry_of d) ≡ d
unfolding telemetry_of payload_of
payload-back d long byte =
    rw (
      bytes-number 1 d 0 byte (omega arith),
      bytes-number 2 d 1 byte (omega arith),
      bytes-number 2 d 3 byte (omega arith),
      bytes-number 2 d 5 byte (omega arith),
      bytes-number 2 d 7 byte (omega arith),
      take_all 2 (drop 7 d) (omega (arith, length-drop 7 d)),
      ← drop-drop 2 5 d,
      take-append-drop 2 (drop 5 d),
      ← drop-drop 2 3 d,
      take-append-drop 2 (drop 3 d),
      ← drop-drop 2 1 d,
      take-append-drop 2 (drop 1 d),
    )
    (take-append-drop 1 d)

pub sample-spelt : (s : List ℕ) → length s ≡ 22 → ((k : ℕ) → get_or s k 0 < 256) → get_or s 0 0 ≤ 3 → sample_bytes (lent_sample s) ≡ s
unfolding lent_sample sample_bytes
sample-spelt s long byte lane =
    let behind = payload-back (drop 13 s) (omega (arith, long, length-drop 13 s)) (λ k. rw (get_or-drop 13 s k 0) (byte (13 + k))) in
    rw (
      lane-back (get_or s 0 0) lane,
      bytes-number 4 s 1 byte (omega arith),
      bytes-number 8 s 5 byte (omega arith),
      behind,
      ← drop-drop 8 5 s,
      take-append-drop 8 (drop 5 s),
      ← drop-drop 4 1 s,
      take-append-drop 4 (drop 1 s),
    )
    (sym (drop-cons s 0 0 (omega arith)))

pub bytes-back : BytesBack
bytes-back s long bytes lane = sample-spelt s long (bytes_below s bytes) lane
