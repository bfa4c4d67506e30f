-- `never-another-arm` with P = 20: a list on which it says something, and for each assumption a list in which only that one fails and a byte
-- of another arm is in a reading. In the order of a row: whether the records are bytes, what fails, where samples went and where bytes came from.
use mathlib.Core.Path.{◌≡◌, refl}
use mathlib.Core.Bool.{Bool, true, false}
use mathlib.Core.List.{List, [], ◌∷◌, ◌++◌}
use Rattle.std.specs.Prelude.{Option, None, Some}
use Prim.Native.Nat.{ℕ}
use lib.ListN.{replicate}
use Rattle.base.specs.BigEndian.{number_at, bytes_of}
use Rattle.blheli_telemetry.specs.Crc.{crc_bit, crc_bits, crc_byte, crc_from, crc_of}
use Rattle.blheli_telemetry.specs.Frame.{telemetry_of, payload_of}
use Rattle.base.specs.Due.{due}
use Rattle.esc_feedback.specs.Config.{legacy_uart}
use Rattle.esc_records.specs.Record.{record_of, read_record}
use Rattle.esc_answers.specs.Answer.{
  request_bytes,
  sample_bytes,
  delivered_bytes,
  failure_bytes,
  idle_bytes,
  next_bytes,
  ack_bytes,
  wire_bytes,
  timeout_bytes,
  body_bytes,
  answer_bytes,
}
use Rattle.booking.specs.History.{since}
use Rattle.booking.specs.Wire.{wire, latest, frame_at}
use Rattle.booking.specs.Booking.{open_request, started_at, latest_frame, newly_started, started_request}
use Rattle.booking.specs.Faults.{faulted, quiet_since, retries, timeout_for, recovers, note}
use Rattle.booking.specs.Turns.{turn, last_queued, existing}
use Rattle.booking.specs.IdleRule.{check, verdict, streak, judged}
use Rattle.booking.specs.Rule.{rule_for}
use Rattle.booking.proofs.Calls.{roomy}
use Rattle.attribution.specs.Marks.{Marked, calls_of, Log, log_of, log_after, since_in}
use Rattle.attribution.specs.Origin.{requests}
use Rattle.attribution.specs.Since.{taken_since}
use Rattle.attribution.specs.Tests.{always}
use Rattle.attribution.specs.Clock.{latest_t, queued_at}
use Rattle.attribution.specs.Pace.{spacious, Pace}
use Rattle.base.specs.Bytes.{are_bytes}
use Rattle.booking.specs.FirstNine.{of_bytes}
use Rattle.attribution.specs.NeverAnotherArm.{NoOtherArm}
use Rattle.attribution.proofs.ByRule.{trace_marked}
use Rattle.attribution.proofs.Lists.{
  unmarked,
  opening_paced,
  queue,
  acknowledge,
  poll,
  cut,
  recover,
  ask,
  zeros,
  booked,
  arms,
  Name,
  clock,
  cutting,
  asked_in_time,
  spacing,
  pace_fails,
  rule_log,
  by-rule,
}
use Rattle.attribution.proofs.Newest.{Newest, newest-by, Refuted}
use Rattle.attribution.proofs.OtherArm.{other_arm}
use Rattle.attribution.proofs.NeverAnotherArm.{never-another-arm}

pub record PaceRow (ms : List Marked) (bytes : Bool) (fails : List Name) (to : List ℕ) (from : List (Option ℕ)) : Type 0 where
  pub spelt : of_bytes (calls_of ms) ≡ bytes
  pub failing : pace_fails 20 (log_after ms) ≡ fails
  pub lanes : booked (log_after ms) ≡ to
  pub sent : arms (log_after ms) ≡ from

row : (ms : List Marked) → PaceRow ms (of_bytes (calls_of ms)) (pace_fails 20 (rule_log ms)) (booked (rule_log ms)) (arms (rule_log ms))
row ms =
    record {
      spelt = refl;
      failing = by-rule (λ (l : Log). pace_fails 20 l ≡ pace_fails 20 (rule_log ms)) ms refl;
      lanes = by-rule (λ (l : Log). booked l ≡ booked (rule_log ms)) ms refl;
      sent = by-rule (λ (l : Log). arms l ≡ arms (rule_log ms)) ms refl;
    }

abbrev arm : ℕ → ℕ → List (Option ℕ)
arm n lane = replicate n (Some lane)

abbrev noise : ℕ → List (Option ℕ)
noise n = replicate n None

-- all assumptions hold
abbrev pub noisy_flight : List Marked
noisy_flight =
    -- noise before the first request; a frame before its acknowledgement, and noise after it
    opening_paced 20 20 0 ∷ zeros 3 None 5 ++ (cut ∷ queue 0 0 20 ∷ zeros 10 (Some 0) 22 ++ (zeros 2 None 23 ++ (acknowledge 0 0 24
    -- a byte is lost: a timeout, noise while faulted, a recovery
    ∷ cut ∷ ask 1 1 40 ++ (zeros 9 (Some 1) 45 ++ (poll 200 ∷ zeros 25 None 201 ++ (recover 701
    -- a byte is lost and noise is in its place
    ∷ ask 2 2 702 ++ (zeros 4 (Some 2) 703 ++ (zeros 1 None 703 ++ (zeros 5 (Some 2) 704
    -- a second opening while lane 3 answers
    ++ (cut ∷ ask 3 3 722 ++ (zeros 4 (Some 3) 723 ++ (opening_paced 20 20 730 ∷ zeros 6 (Some 3) 735
    ++ (cut ∷ ask 0 0 750 ++ zeros 10 (Some 4) 769)))))))))))))

-- lane 0 answers in full, and the wire is cut
abbrev first : List Marked
first = ask 0 0 20 ++ (zeros 10 (Some 0) 21 ++ cut ∷ [])

-- a byte one millisecond too late
abbrev pub too_late : List Marked
too_late = opening_paced 20 20 0 ∷ first ++ (ask 1 1 40 ++ (zeros 1 (Some 0) 40 ++ zeros 9 (Some 1) 41))

-- a byte that was not asked for. Its row has it asked for afterwards, so that the byte's request has an arm
abbrev pub unasked : List Marked
unasked = opening_paced 20 20 0 ∷ ask 0 0 20 ++ (zeros 1 (Some 1) 21 ++ zeros 9 (Some 0) 21)

-- the clock goes back by one
abbrev pub clock_back : List Marked
clock_back = opening_paced 20 20 0 ∷ first ++ (ask 1 1 40 ++ (zeros 1 (Some 0) 39 ++ zeros 9 (Some 1) 40))

-- the period one too small
abbrev pub short_period : List Marked
short_period = opening_paced 20 19 0 ∷ first ++ (ask 1 1 39 ++ (zeros 1 (Some 0) 39 ++ zeros 9 (Some 1) 40))

-- the boot delay one too small
abbrev pub short_delay : List Marked
short_delay =
    opening_paced 20 20 0 ∷ first ++ (ask 1 1 40 ++ (opening_paced 19 20 40 ∷ ask 0 0 59 ++ (zeros 1 (Some 1) 59 ++ zeros 9 (Some 2) 60)))

-- a byte between the cut and the 02
abbrev pub after_the_cut : List Marked
after_the_cut = opening_paced 20 20 0 ∷ first ++ (zeros 1 (Some 0) 39 ++ (ask 1 1 40 ++ zeros 9 (Some 1) 41))

-- no bytes: T is 2^64 + x, and Due takes a period of one for one of 31
abbrev beyond : ℕ → List ℕ
beyond x = 0x100 ∷ 0x00 ∷ 0x00 ∷ 0x00 ∷ 0x00 ∷ 0x00 ∷ 0x00 ∷ x ∷ []

abbrev queue_beyond : ℕ → ℕ → ℕ → Marked
queue_beyond s l x = unmarked (0x02 ∷ (bytes_of 4 s ++ l ∷ beyond x))

abbrev zeros_beyond : ℕ → Option ℕ → ℕ → List Marked
zeros_beyond n o x = replicate n (record { call = roomy (0x05 ∷ 0x00 ∷ beyond x); origin = o })

abbrev pub no_bytes : List Marked
no_bytes =
    opening_paced 20 20 0 ∷ queue_beyond 0 0 30 ∷ acknowledge 0 0 30 ∷ zeros_beyond 10 (Some 0) 30
    ++ (cut ∷ queue_beyond 1 1 31 ∷ acknowledge 1 1 31 ∷ zeros_beyond 1 (Some 0) 31 ++ zeros_beyond 9 (Some 1) 31)

pub record PaceLists : Type 0 where
  pub flight-comes : PaceRow noisy_flight true [] (0 ∷ 2 ∷ 0 ∷ [])
      (noise 3 ++ (arm 10 0 ++ (noise 2 ++ (arm 9 1 ++ (noise 25 ++ (arm 4 2 ++ (noise 1 ++ (arm 5 2 ++ (arm 10 3 ++ arm 10 0)))))))))
  pub flight-right : Newest noisy_flight NoOtherArm
  -- with `legacy_uart` P is 20, and no more
  pub legacy : (t : ℕ) → spacious 20 (Some (record { config = legacy_uart; boot = t })) ≡ true
  pub legacy-most : (t : ℕ) → spacious 21 (Some (record { config = legacy_uart; boot = t })) ≡ false
  pub late-comes : PaceRow too_late true (asked_in_time ∷ []) (0 ∷ 1 ∷ []) (arm 11 0 ++ arm 9 1)
  pub late-wrong : Refuted NoOtherArm too_late
  pub unasked-comes : PaceRow (unasked ++ (cut ∷ ask 1 1 40)) true (asked_in_time ∷ []) (0 ∷ []) (arm 1 1 ++ arm 9 0)
  pub unasked-wrong : Refuted NoOtherArm unasked
  pub back-comes : PaceRow clock_back true (clock ∷ []) (0 ∷ 1 ∷ []) (arm 11 0 ++ arm 9 1)
  pub back-wrong : Refuted NoOtherArm clock_back
  pub period-comes : PaceRow short_period true (spacing ∷ []) (0 ∷ 1 ∷ []) (arm 11 0 ++ arm 9 1)
  pub period-wrong : Refuted NoOtherArm short_period
  pub delay-comes : PaceRow short_delay true (spacing ∷ []) (0 ∷ 0 ∷ []) (arm 10 0 ++ (arm 1 1 ++ arm 9 0))
  pub delay-wrong : Refuted NoOtherArm short_delay
  pub cut-comes : PaceRow after_the_cut true (cutting ∷ []) (0 ∷ 1 ∷ []) (arm 11 0 ++ arm 9 1)
  pub cut-wrong : Refuted NoOtherArm after_the_cut
  pub bytes-comes : PaceRow no_bytes false [] (0 ∷ 1 ∷ []) (arm 11 0 ++ arm 9 1)
  pub bytes-wrong : Refuted NoOtherArm no_bytes

pub pace-lists : PaceLists
unfolding number_at bytes_of crc_bit crc_bits crc_byte crc_from crc_of telemetry_of payload_of due record_of read_record request_bytes sample_bytes
    delivered_bytes failure_bytes idle_bytes next_bytes ack_bytes wire_bytes timeout_bytes body_bytes answer_bytes since wire latest frame_at
    open_request started_at latest_frame newly_started started_request faulted quiet_since retries timeout_for recovers note turn last_queued existing
    check verdict streak judged rule_for trace_marked log_of since_in requests taken_since always latest_t queued_at are_bytes of_bytes
pace-lists =
    record {
      flight-comes = row noisy_flight;
      flight-right =
          newest-by noisy_flight NoOtherArm (Pace 20) (never-another-arm 20 noisy_flight refl) refl
          (record { asked = refl; clock = refl; set = refl; cut = refl });
      legacy = λ t. refl;
      legacy-most = λ t. refl;
      late-comes = row too_late;
      late-wrong = other_arm too_late refl refl;
      unasked-comes = row (unasked ++ (cut ∷ ask 1 1 40));
      unasked-wrong = other_arm unasked refl refl;
      back-comes = row clock_back;
      back-wrong = other_arm clock_back refl refl;
      period-comes = row short_period;
      period-wrong = other_arm short_period refl refl;
      delay-comes = row short_delay;
      delay-wrong = other_arm short_delay refl refl;
      cut-comes = row after_the_cut;
      cut-wrong = other_arm after_the_cut refl refl;
      bytes-comes = row no_bytes;
      bytes-wrong = other_arm no_bytes refl refl;
    }
