-- Parts of an answer are read back from its bytes: a lane, an idle status, a sample, a request. Each is built of the numbers that stand there.
use Rattle.std.proofs.Common.{◌≡◌, ℕ, zero, suc, ◌<◌, ◌≤◌, ◌+◌, List, [], ◌∷◌, ◌++◌, Option, Some, None}
use Rattle.std.proofs.Common.{length, get_or, drop, refl, arith, length-drop}
use Rattle.std.proofs.Common.{sym, length-take, get_or-take, get_or-drop, drop-drop, take-append-drop}
use Rattle.std.proofs.lemmas.Bool.{cases_lt}
use Rattle.std.proofs.lemmas.List.{get_or_past}
use mathlib.Core.Logic.{◌⊎◌, inl, inr}
use Rattle.base.specs.BigEndian.{number_at}
use Rattle.esc_lanes.specs.Output.{output_at}
use Rattle.esc_lanes.specs.declared.request.EscActuatorRequest.{EscActuatorRequest}
use Rattle.esc_lanes.specs.declared.request.EscTelemetryUpdate.{EscTelemetryUpdate}
use Rattle.esc_idle.specs.declared.idle_verdict.EscIdleQualificationFailure.TheVariants as failure
use Rattle.esc_idle.specs.declared.idle_verdict.EscIdleQualificationStatus.{EscIdleQualificationStatus}
use Rattle.esc_idle.specs.declared.idle_verdict.EscIdleQualificationStatus.TheVariants as idle
use Rattle.esc_answers.proofs.AnswerLaws.{four_counts}
use Rattle.esc_answers.specs.Answer.{request_bytes, sample_bytes, failure_bytes, idle_bytes}
use Rattle.lent_samples.specs.Samples.{lent_sample}
use Rattle.lent_samples.proofs.SamplesBack.{lane-back, sample-spelt}
use Rattle.answer_lines.specs.Claims.{FourCounts}
use Rattle.answer_lines.specs.Told.{sample_in}
use Rattle.answer_lines.proofs.JoinLaws.{byte-behind, run-behind, run-last, none-behind}

module _ (s : List ℕ) where
  -- an idle status, from a place on
  pub record StatusAt (at : ℕ) : Type 0 where
    pub status : Option EscIdleQualificationStatus
    pub counts : FourCounts status
    pub bytes : idle_bytes status ≡ drop at s

  module _ (at : ℕ) where
    pub status-alone : length s ≡ at + 1 → get_or s at 0 ≤ 3 → StatusAt at
    unfolding idle_bytes failure_bytes
    status-alone l h = go (get_or s at 0) refl h
      where
        whole : (b : ℕ) → get_or s at 0 ≡ b → b ∷ [] ≡ drop at s
        whole b e = byte-behind s at b (omega arith) e (none-behind s (at + 1) (omega arith))

        go : (b : ℕ) → get_or s at 0 ≡ b → b ≤ 3 → StatusAt at
        go zero e h = record { status = None; counts = tt; bytes = whole 0 e }
        go (suc zero) e h = record { status = Some idle.Pending; counts = tt; bytes = whole 1 e }
        go (suc (suc zero)) e h = record { status = Some idle.Qualified; counts = tt; bytes = whole 2 e }
        go (suc (suc (suc zero))) e h = record { status = Some (idle.Failed failure.InvalidConfig); counts = tt; bytes = whole 3 e }
        go (suc (suc (suc (suc b)))) e h = absurd (omega arith)

    pub timed-out : length s ≡ at + 5 → get_or s at 0 ≡ 5 → StatusAt at
    unfolding idle_bytes failure_bytes
    timed-out l e =
        let long : length (drop (at + 1) s) ≡ 4 = omega (arith, length-drop (at + 1) s) in
        record {
          status = Some (idle.Failed (failure.Timeout (drop (at + 1) s)));
          counts = long;
          bytes = byte-behind s at 5 (omega arith) e (four_counts (drop (at + 1) s) long);
        }

  -- the sample behind 00 02, or behind 00 01
  abbrev pub sample_read : EscTelemetryUpdate
  sample_read = lent_sample (sample_in s)

  pub request_read : EscActuatorRequest
  request_read = record { sequence = number_at 4 s 2; output = output_at (get_or s 6 0) }

  module _ (byte : (i : ℕ) → get_or s i 0 < 256) where
    pub overspeed : (at : ℕ) → length s ≡ at + 4 → get_or s at 0 ≡ 4 → get_or s (at + 1) 0 ≤ 3 → StatusAt at
    unfolding idle_bytes failure_bytes
    overspeed at l e h =
        record {
          status = Some (idle.Failed (failure.Overspeed (output_at (get_or s (at + 1) 0)) (number_at 2 s (at + 1 + 1))));
          counts = tt;
          bytes =
              byte-behind s at 4 (omega arith) e
              (byte-behind s (at + 1) _ (omega arith) (sym (lane-back _ h)) (run-last s byte 2 (at + 1 + 1) (omega arith)));
        }

    in-sample : (k : ℕ) → get_or (sample_in s) k 0 < 256
    in-sample k = by (cases_lt k 22)
      where
        by : (k < 22) ⊎ (22 ≤ k) → get_or (sample_in s) k 0 < 256
        by (inl within) = rw (get_or-take 22 (drop 2 s) k 0 within, get_or-drop 2 s k 0) (byte (2 + k))
        by (inr past) = rw (get_or_past (sample_in s) k 0 (omega (arith, length-take 22 (drop 2 s)))) (omega arith)

    pub sample-behind : (rest : List ℕ) → 24 ≤ length s → get_or s 2 0 ≤ 3 → rest ≡ drop 24 s → sample_bytes sample_read ++ rest ≡ drop 2 s
    sample-behind rest l h r =
        let long : length (sample_in s) ≡ 22 = simp (length-take, length-drop) (omega arith) in
        let lane : get_or (sample_in s) 0 0 ≤ 3 = rw (get_or-take 22 (drop 2 s) 0 0 (omega arith), get_or-drop 2 s 0 0) h in
        rw (sample-spelt (sample_in s) long in-sample lane, r, ← drop-drop 22 2 s) (take-append-drop 22 (drop 2 s))

    pub request-behind : length s ≡ 7 → get_or s 6 0 ≤ 3 → request_bytes request_read ≡ drop 2 s
    unfolding request_read request_bytes
    request-behind l h =
        run-behind s byte 4 2 (omega arith) (byte-behind s 6 _ (omega arith) (sym (lane-back _ h)) (none-behind s 7 (omega arith)))
