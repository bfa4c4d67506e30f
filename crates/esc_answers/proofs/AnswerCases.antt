-- The bytes of answers as document 01 has them ('Records'), of the rule itself, by computation: each shape of answer, field by
-- field, with values in which no two bytes are equal.
use Rattle.std.proofs.Common.{◌≡◌, ℕ, Bool, true, false, Option, Some, None, List, [], ◌∷◌, ◌++◌, refl}
use Rattle.base.specs.Reply.{refused}
use Rattle.base.specs.BigEndian.{bytes_of}
use Rattle.blheli_telemetry.specs.Frame.{payload_of}
use Rattle.esc_lanes.specs.declared.output.Lane.{Lane}
use Rattle.esc_lanes.specs.declared.output.Lane.TheVariants.{Output1, Output2, Output3, Output4}
use Rattle.esc_lanes.specs.declared.request.EscActuatorRequest.{EscActuatorRequest}
use Rattle.esc_lanes.specs.declared.request.EscTelemetryUpdate.{EscTelemetryUpdate}
use Rattle.esc_feedback.specs.declared.answer.EscManagerTimeout.TheVariants as timeout
use Rattle.esc_idle.specs.declared.idle_verdict.EscIdleQualificationFailure.TheVariants as failure
use Rattle.esc_idle.specs.declared.idle_verdict.EscIdleQualificationStatus.{EscIdleQualificationStatus}
use Rattle.esc_idle.specs.declared.idle_verdict.EscIdleQualificationStatus.TheVariants as idle
use Rattle.esc_answers.specs.Answer.{request_bytes, sample_bytes, failure_bytes, idle_bytes, delivered_bytes, next_bytes, ack_bytes, timeout_bytes}
use Rattle.esc_answers.specs.Answer.{wire_bytes, back_bytes, report_bytes, stored_bytes, figure_bytes, body_bytes, answer_bytes, reply_bytes}
use Rattle.esc_answers.specs.declared.answer.Delivered.{Delivered}
use Rattle.esc_answers.specs.declared.answer.AckAnswer.TheVariants as ack
use Rattle.esc_answers.specs.declared.answer.UnitReport.{UnitReport}
use Rattle.esc_answers.specs.declared.answer.Answer.{Answer}
use Rattle.esc_answers.specs.declared.answer.Answer.TheVariants as answer
use Rattle.base.proofs.Rising.{rising}

-- the request of sequence 11121314
abbrev request : Lane → EscActuatorRequest
request l = record { sequence = 0x11121314; output = record { 0 = l } }

-- the sample of sequence 11121314, observed at 15161718191a1b1c, of the payload 1d 1e1f 2021 2223 2425
abbrev sample : Lane → EscTelemetryUpdate
sample l =
    record {
      output = record { 0 = l };
      observation =
          record {
            sample =
                record {
                  temperature_c = 0x1d;
                  voltage_cv = 0x1e1f;
                  current_ca = 0x2021;
                  consumption_mah = 0x2223;
                  erpm_div100 = 0x2425;
                };
            observed_at_ms = 0x15161718191a1b1c;
            request_sequence = 0x11121314;
          };
    }

abbrev delivered : Option EscIdleQualificationStatus → Delivered
delivered status = record { update = sample Output2; status = status }

-- ten counts in the order of `EscManagerStats`
abbrev report : Bool → Bool → UnitReport
report faulted retrying =
    record {
      faulted = faulted;
      retrying = retrying;
      stats =
          record {
            requests_queued = 0x11121314;
            requests_started = 0x15161718;
            actuator_ack_timeouts = 0x191a1b1c;
            telemetry_response_timeouts = 0x1d1e1f20;
            mismatched_acks = 0x21222324;
            unsolicited_frames = 0x25262728;
            recoveries = 0x292a2b2c;
            wire = record { valid_frames = 0x2d2e2f30; crc_failures = 0x31323334; discarded_bytes = 0x35363738 };
          };
    }

-- the idle status, behind the bytes that stand before it
pub record StatusCases (told : Option EscIdleQualificationStatus → Answer) (before : List ℕ) : Type 0 where
  -- 00 no check, 01 pending, 02 qualified, 03 invalid settings
  pub no-check : answer_bytes (told None) ≡ before ++ 0x00 ∷ []
  pub pending : answer_bytes (told (Some idle.Pending)) ≡ before ++ 0x01 ∷ []
  pub qualified : answer_bytes (told (Some idle.Qualified)) ≡ before ++ 0x02 ∷ []
  pub invalid : answer_bytes (told (Some (idle.Failed failure.InvalidConfig))) ≡ before ++ 0x03 ∷ []
  -- 04 overspeed with L and eRPM (2)
  pub overspeed : answer_bytes (told (Some (idle.Failed (failure.Overspeed (record { 0 = Output4 }) 0x3132))))
      ≡ before ++ 0x04 ∷ 0x03 ∷ 0x31 ∷ 0x32 ∷ []
  -- 05 timeout with four counts (1 each)
  pub timeout : answer_bytes (told (Some (idle.Failed (failure.Timeout (0x41 ∷ 0x42 ∷ 0x43 ∷ 0x44 ∷ [])))))
      ≡ before ++ 0x05 ∷ 0x41 ∷ 0x42 ∷ 0x43 ∷ 0x44 ∷ []

-- An accepted answer starts with 00
pub record AnswerCases : Type 0 where
  -- 00, 06, 09, 0a add nothing
  pub done : answer_bytes answer.Done ≡ 0x00 ∷ []
  -- for 02 and 07, 00 no or 01 yes
  pub no : answer_bytes (answer.Decided false) ≡ 0x00 ∷ 0x00 ∷ []
  pub yes : answer_bytes (answer.Decided true) ≡ 0x00 ∷ 0x01 ∷ []
  -- for 01, 00 none or 01 S L
  pub no-request : answer_bytes (answer.Request None) ≡ 0x00 ∷ 0x00 ∷ []
  pub request-told : answer_bytes (answer.Request (Some (request Output4))) ≡ 0x00 ∷ 0x01 ∷ rising 4 0x11 ++ 0x03 ∷ []
  -- for 04, 00 none, 01 acknowledgement or 02 response timeout, and S L
  pub no-timeout : answer_bytes (answer.Timeout None) ≡ 0x00 ∷ 0x00 ∷ []
  pub ack-timeout : answer_bytes (answer.Timeout (Some (timeout.ActuatorAck (request Output3)))) ≡ 0x00 ∷ 0x01 ∷ rising 4 0x11 ++ 0x02 ∷ []
  pub response-timeout : answer_bytes (answer.Timeout (Some (timeout.TelemetryResponse (request Output2))))
      ≡ 0x00 ∷ 0x02 ∷ rising 4 0x11 ++ 0x01 ∷ []
  -- for 03, 00 rejected, 01 accepted, 02 sample; a sample is L, S, observed T and nine payload bytes, and an idle status follows it
  pub rejected : answer_bytes (answer.Ack ack.Rejected) ≡ 0x00 ∷ 0x00 ∷ []
  pub accepted : answer_bytes (answer.Ack ack.Accepted) ≡ 0x00 ∷ 0x01 ∷ []
  pub sample-03 : StatusCases (λ s. answer.Ack (ack.Sample (delivered s))) (0x00 ∷ 0x02 ∷ 0x01 ∷ rising 21 0x11)
  -- for 05, 00 none or 02 sample
  pub no-sample : answer_bytes (answer.Wire None) ≡ 0x00 ∷ 0x00 ∷ []
  pub sample-05 : StatusCases (λ s. answer.Wire (Some (delivered s))) (0x00 ∷ 0x02 ∷ 0x01 ∷ rising 21 0x11)
  -- 0b gives the status alone
  pub status-0b : StatusCases answer.Idle (0x00 ∷ [])
  -- 08: 00 none, or 01 and a count (4)
  pub no_note : answer_bytes (answer.BackAfterRetries None) ≡ 0x00 ∷ 0x00 ∷ []
  pub note : answer_bytes (answer.BackAfterRetries (Some 0x11121314)) ≡ 0x00 ∷ 0x01 ∷ rising 4 0x11
  -- 0c: faulted, retrying (1 byte each, 00 or 01), then the ten counts of `EscManagerStats` in its order (4 each)
  pub faulted : answer_bytes (answer.Report (report true false)) ≡ 0x00 ∷ 0x01 ∷ 0x00 ∷ rising 40 0x11
  pub retrying : answer_bytes (answer.Report (report false true)) ≡ 0x00 ∷ 0x00 ∷ 0x01 ∷ rising 40 0x11
  -- 0d: 00 none, or 01 sample
  pub none-stored : answer_bytes (answer.Stored None) ≡ 0x00 ∷ 0x00 ∷ []
  pub sample-stored : answer_bytes (answer.Stored (Some (sample Output1))) ≡ 0x00 ∷ 0x01 ∷ 0x00 ∷ rising 21 0x11
  -- 0e: samples (4), hottest (1), lowest voltage (2)
  pub figures : answer_bytes (answer.Figures (record { samples = 0x11121314; hottest_c = 0x15; lowest_cv = 0x1617 })) ≡ 0x00 ∷ rising 7 0x11
  -- a refusal gives its number alone, printed as one byte
  pub refusal : reply_bytes (refused 9) ≡ 0x09 ∷ []

statuses : (told : Option EscIdleQualificationStatus → Answer) (before : List ℕ)
    → ((s : Option EscIdleQualificationStatus) → answer_bytes (told s) ≡ before ++ idle_bytes s)
    → StatusCases told before
unfolding bytes_of failure_bytes idle_bytes
statuses told before behind =
    record {
      no-check = behind _;
      pending = behind _;
      qualified = behind _;
      invalid = behind _;
      overspeed = behind _;
      timeout = behind _;
    }

pub answer-cases : AnswerCases
unfolding bytes_of payload_of request_bytes sample_bytes delivered_bytes next_bytes ack_bytes timeout_bytes wire_bytes
    back_bytes report_bytes stored_bytes figure_bytes body_bytes answer_bytes reply_bytes
answer-cases =
    record {
      done = refl;
      no = refl;
      yes = refl;
      no-request = refl;
      request-told = refl;
      no-timeout = refl;
      ack-timeout = refl;
      response-timeout = refl;
      rejected = refl;
      accepted = refl;
      sample-03 = statuses _ _ (λ s. refl);
      no-sample = refl;
      sample-05 = statuses _ _ (λ s. refl);
      status-0b = statuses _ _ (λ s. refl);
      no_note = refl;
      note = refl;
      faulted = refl;
      retrying = refl;
      none-stored = refl;
      sample-stored = refl;
      figures = refl;
      refusal = refl;
    }
