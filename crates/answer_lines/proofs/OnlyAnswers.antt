-- Bytes of each form are some reply's, built from the numbers that stand in them.
use Rattle.std.proofs.Common.{◌≡◌, ℕ, zero, suc, ◌<◌, ◌≤◌, Bool, true, false, eqb, List, [], ◌∷◌, Some}
use Rattle.std.proofs.Common.{length, get_or, drop, refl, sym, ◌∙◌, arith, append-nil}
use Rattle.base.specs.Reply.{accepted, refused}
use Rattle.base.specs.BigEndian.{number_at}
use Rattle.base.proofs.ByCases.{below_or_not}
use Rattle.base.proofs.BytesLaws.{bytes_below}
use Rattle.esc_feedback.specs.declared.answer.EscManagerTimeout.TheVariants as timeout
use Rattle.esc_answers.specs.Answer.{flag_byte, sample_bytes, idle_bytes, delivered_bytes, next_bytes, timeout_bytes}
use Rattle.esc_answers.specs.Answer.{wire_bytes, back_bytes, report_bytes, stored_bytes, figure_bytes, body_bytes, answer_bytes, reply_bytes}
use Rattle.esc_answers.specs.declared.answer.Answer.{Answer}
use Rattle.esc_answers.specs.declared.answer.Answer.TheVariants as answer
use Rattle.answer_lines.specs.Form.{Bounded, form, only, a_lane, fits_one, deliveries, other_answers}
use Rattle.answer_lines.specs.Told.{told_by}
use Rattle.answer_lines.specs.Claims.{AnswerCounts, PrintedAs, OnlyAnswers}
use Rattle.answer_lines.proofs.FormLaws.{Fits, FromEach, from-one}
use Rattle.answer_lines.proofs.JoinLaws.{byte-behind, run-behind, run-last, none-behind}
use Rattle.answer_lines.proofs.ReadBack.{StatusAt, status-alone, overspeed, timed-out, sample_read, sample-behind, request_read, request-behind}

flag-read : (n : ℕ) → n ≤ 1 → n ≡ flag_byte (eqb n 1)
flag-read zero h = refl
flag-read (suc zero) h = refl
flag-read (suc (suc n)) h = absurd (omega arith)

printed : (a : Answer) {s : List ℕ} → AnswerCounts a → answer_bytes a ≡ s → PrintedAs s
unfolding reply_bytes
printed a counts e = record { reply = accepted a; printable = counts; bytes = e }

-- a byte: 00, or a refusal
one : (s : List ℕ) → length s ≡ 1 → get_or s 0 0 ≤ 12 → PrintedAs s
unfolding reply_bytes answer_bytes body_bytes
one [] l h = absurd (omega arith)
one (zero ∷ []) l h = printed answer.Done tt refl
one (suc n ∷ []) l h = record { reply = refused (suc n); printable = (omega arith, omega arith); bytes = refl }
one (a ∷ b ∷ s) l h = absurd (omega arith)

-- the others are read as numbers
module _ (s : List ℕ) (byte : (i : ℕ) → get_or s i 0 < 256) where
  module _ (zeroth : get_or s 0 0 ≤ 0) where
    -- 00 and what stands behind it
    answered : (a : Answer) → AnswerCounts a → 1 ≤ length s → body_bytes a ≡ drop 1 s → PrintedAs s
    unfolding answer_bytes
    answered a counts l e = printed a counts (byte-behind s 0 0 (omega arith) (omega arith) e)

    idle-answer : StatusAt s 1 → 1 ≤ length s → PrintedAs s
    unfolding body_bytes
    idle-answer i l = answered (answer.Idle i.status) i.counts l i.bytes

    delivered-answer : StatusAt s 24 → 24 ≤ length s → get_or s 1 0 ≡ 2 → get_or s 2 0 ≤ 3 → PrintedAs s
    unfolding body_bytes wire_bytes delivered_bytes
    delivered-answer i l e h =
        answered (answer.Wire (Some (record { update = sample_read s; status = i.status }))) i.counts (omega arith)
        (byte-behind s 1 2 (omega arith) e (sample-behind s byte (idle_bytes i.status) l h i.bytes))

    stored-answer : length s ≡ 24 → get_or s 1 0 ≡ 1 → get_or s 2 0 ≤ 3 → PrintedAs s
    unfolding body_bytes stored_bytes
    stored-answer l e h =
        answered (answer.Stored (Some (sample_read s))) tt (omega arith)
        (byte-behind s 1 1 (omega arith) e
        (sym (append-nil (sample_bytes (sample_read s))) ∙ sample-behind s byte [] (omega arith) h (none-behind s 24 (omega arith))))

    back-answer : length s ≡ 6 → get_or s 1 0 ≡ 1 → PrintedAs s
    unfolding body_bytes back_bytes
    back-answer l e =
        answered (answer.BackAfterRetries (Some (number_at 4 s 2))) tt (omega arith)
        (byte-behind s 1 1 (omega arith) e (run-last s byte 4 2 (omega arith)))

    request-answer : length s ≡ 7 → get_or s 6 0 ≤ 3 → 1 ≤ get_or s 1 0 → get_or s 1 0 ≤ 2 → PrintedAs s
    unfolding body_bytes next_bytes timeout_bytes
    request-answer l h low high =
        below_or_not (get_or s 1 0) 2
        (λ k. answered (answer.Request (Some (request_read s))) tt (omega arith) (byte-behind s 1 1 (omega arith) (omega arith) (request-behind s byte l h)))
        (λ k.
        answered (answer.Timeout (Some (timeout.TelemetryResponse (request_read s)))) tt (omega arith)
        (byte-behind s 1 2 (omega arith) (omega arith) (request-behind s byte l h)))

    figures-answer : length s ≡ 8 → PrintedAs s
    unfolding body_bytes figure_bytes
    figures-answer l =
        answered (answer.Figures (record { samples = number_at 4 s 1; hottest_c = number_at 1 s 5; lowest_cv = number_at 2 s 6 })) tt (omega arith)
        (run-behind s byte 4 1 (omega arith) (run-behind s byte 1 5 (omega arith) (run-last s byte 2 6 (omega arith))))

    report-answer : length s ≡ 43 → get_or s 1 0 ≤ 1 → get_or s 2 0 ≤ 1 → PrintedAs s
    unfolding body_bytes report_bytes
    report-answer l f r =
        answered
        (answer.Report
        (record {
          faulted = eqb (get_or s 1 0) 1;
          retrying = eqb (get_or s 2 0) 1;
          stats =
              record {
                requests_queued = number_at 4 s 3;
                requests_started = number_at 4 s 7;
                actuator_ack_timeouts = number_at 4 s 11;
                telemetry_response_timeouts = number_at 4 s 15;
                mismatched_acks = number_at 4 s 19;
                unsolicited_frames = number_at 4 s 23;
                recoveries = number_at 4 s 27;
                wire = record { valid_frames = number_at 4 s 31; crc_failures = number_at 4 s 35; discarded_bytes = number_at 4 s 39 };
              };
        }))
        tt (omega arith)
        (byte-behind s 1 _ (omega arith) (flag-read _ f)
        (byte-behind s 2 _ (omega arith) (flag-read _ r)
        (run-behind s byte 4 3 (omega arith)
        (run-behind s byte 4 7 (omega arith)
        (run-behind s byte 4 11 (omega arith)
        (run-behind s byte 4 15 (omega arith)
        (run-behind s byte 4 19 (omega arith)
        (run-behind s byte 4 23 (omega arith)
        (run-behind s byte 4 27 (omega arith)
        (run-behind s byte 4 31 (omega arith) (run-behind s byte 4 35 (omega arith) (run-last s byte 4 39 (omega arith)))))))))))))

  -- each form: what stands in it, by its length and its bounds
  delivered-by-form : (n : ℕ) (bounds : List Bounded) → Fits s (form n (only 0x00 0 ∷ only 0x02 1 ∷ a_lane 2 ∷ bounds)) → 24 ≤ n → StatusAt s 24
      → PrintedAs s
  delivered-by-form n bounds k h i =
      delivered-answer (omega (arith, k.within)) i (omega (arith, k.long)) (omega (arith, k.within)) (omega (arith, k.within))

  delivered-forms : FromEach (PrintedAs s) s deliveries
  delivered-forms = (
    (λ k. delivered-by-form 25 _ k (omega arith) (status-alone s 24 k.long (omega (arith, k.within)))),
    (
      (λ k. delivered-by-form 28 _ k (omega arith) (overspeed s byte 24 k.long (omega (arith, k.within)) (omega (arith, k.within)))),
      ((λ k. delivered-by-form 29 _ k (omega arith) (timed-out s 24 k.long (omega (arith, k.within)))), tt),
    ),
  )

  long-forms : FromEach (PrintedAs s) s (drop 5 other_answers)
  long-forms = (
    (λ k. request-answer (omega (arith, k.within)) k.long (omega (arith, k.within)) (omega (arith, k.within)) (omega (arith, k.within))),
    (
      (λ k. figures-answer (omega (arith, k.within)) k.long),
      (
        (λ k. stored-answer (omega (arith, k.within)) k.long (omega (arith, k.within)) (omega (arith, k.within))),
        ((λ k. report-answer (omega (arith, k.within)) k.long (omega (arith, k.within)) (omega (arith, k.within))), tt),
      ),
    ),
  )

  other-forms : FromEach (PrintedAs s) s other_answers
  other-forms = (
    (λ k. one s k.long (omega (arith, k.within))),
    (
      (λ k. idle-answer (omega (arith, k.within)) (status-alone s 1 k.long (omega (arith, k.within))) (omega (arith, k.long))),
      (
        (λ k. idle-answer (omega (arith, k.within)) (overspeed s byte 1 k.long (omega (arith, k.within)) (omega (arith, k.within))) (omega (arith, k.long))),
        (
          (λ k. back-answer (omega (arith, k.within)) k.long (omega (arith, k.within))),
          (
            (λ k. idle-answer (omega (arith, k.within)) (timed-out s 1 k.long (omega (arith, k.within))) (omega (arith, k.long))),
            long-forms,
          ),
        ),
      ),
    ),
  )

pub only-answers : OnlyAnswers
unfolding told_by
only-answers s bytes h = go (fits_one deliveries s) (fits_one other_answers s) refl refl
  where
    byte : (i : ℕ) → get_or s i 0 < 256
    byte = bytes_below s bytes

    go : (delivery other : Bool) → fits_one deliveries s ≡ delivery → fits_one other_answers s ≡ other → PrintedAs s
    go true other d o = from-one s deliveries (delivered-forms s byte) d
    go false true d o = from-one s other_answers (other-forms s byte) o
    go false false d o = absurd (h (rw (d, o)))
