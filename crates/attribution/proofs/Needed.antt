-- Each assumption is needed: a list in which only it fails, a sample is booked to an arm that its bytes did not come from, and the claim
-- is false. In the order of the lists: what fails of the five, with times, with cuts; where samples went and where bytes came from.
use mathlib.Core.Path.{refl}
use mathlib.Core.List.{List, [], ◌∷◌, ◌++◌}
use Rattle.std.specs.Prelude.{None, Some}
use lib.ListN.{replicate}
use Rattle.base.specs.BigEndian.{number_at, bytes_of}
use Rattle.blheli_telemetry.specs.Crc.{crc_bit, crc_bits, crc_byte, crc_from, crc_of}
use Rattle.blheli_telemetry.specs.Frame.{telemetry_of, payload_of}
use Rattle.base.specs.Due.{due}
use Rattle.esc_records.specs.Record.{record_of, read_record}
use Rattle.esc_answers.specs.Answer.{
  request_bytes,
  sample_bytes,
  delivered_bytes,
  failure_bytes,
  idle_bytes,
  next_bytes,
  ack_bytes,
  wire_bytes,
  timeout_bytes,
  body_bytes,
  answer_bytes,
}
use Rattle.booking.specs.History.{since}
use Rattle.booking.specs.Wire.{wire, latest, frame_at}
use Rattle.booking.specs.Booking.{open_request, started_at, latest_frame, newly_started, started_request}
use Rattle.booking.specs.Faults.{faulted, quiet_since, retries, timeout_for, recovers, note}
use Rattle.booking.specs.Turns.{turn, last_queued, existing}
use Rattle.booking.specs.IdleRule.{check, verdict, streak, judged}
use Rattle.booking.specs.Rule.{rule_for}
use Rattle.attribution.specs.Marks.{Marked, log_of, log_after, since_in}
use Rattle.attribution.specs.Origin.{requests, sent_by, at_recovery, at_opening}
use Rattle.attribution.specs.Tests.{always}
use Rattle.attribution.specs.Clock.{latest_t}
use Rattle.attribution.specs.Times.{last_heard}
use Rattle.attribution.specs.Attributed.{CameFrom}
use Rattle.attribution.proofs.ByRule.{trace_marked}
use Rattle.attribution.proofs.Lists.{
  opening_with,
  opening,
  queue,
  acknowledge,
  poll,
  cut,
  recover,
  ask,
  zeros,
  e1,
  e2,
  e3,
  e4,
  e5,
  clock,
  answer,
  reopening,
  cutting,
  Row,
  row,
}
use Rattle.attribution.proofs.Newest.{Refuted}
use Rattle.attribution.proofs.Refuted.{not-from}

-- E1: noise makes a frame
abbrev pub noise : List Marked
noise = opening 0 ∷ ask 0 0 1 ++ zeros 10 None 2

-- E1 too: one byte of noise before the first request, and the sample of lane 1 begins with a byte of lane 0, since 02 does not cut
abbrev pub shifted : List Marked
shifted = opening 0 ∷ zeros 1 None 1 ++ (ask 0 0 2 ++ (zeros 10 (Some 0) 3 ++ (ask 1 1 4 ++ zeros 9 (Some 1) 5)))

-- E2: lane 1 sends before it is asked. Its row has it asked afterwards, so that the bytes' request has an arm
abbrev pub early : List Marked
early = opening 0 ∷ ask 0 0 1 ++ zeros 10 (Some 1) 2

-- E3: lane 0 sends two frames
abbrev pub twice : List Marked
twice = opening 0 ∷ ask 0 0 1 ++ (zeros 10 (Some 0) 2 ++ (cut ∷ ask 1 1 3 ++ zeros 10 (Some 0) 4))

-- E3 too: that a request sends nothing once its sample is delivered would not do. An eleventh byte before the acknowledgement stays on
-- the wire, and nine of lane 1 complete it
abbrev pub eleventh : List Marked
eleventh = opening 0 ∷ queue 0 0 1 ∷ zeros 11 (Some 0) 2 ++ (acknowledge 0 0 3 ∷ ask 1 1 4 ++ zeros 9 (Some 1) 5)

-- E4, an answer within the quiet time: lane 0 answers 701 after its request, and the quiet time is 500
abbrev pub late : List Marked
late = opening 0 ∷ ask 0 0 1 ++ (poll 200 ∷ recover 700 ∷ ask 1 1 701 ++ zeros 10 (Some 0) 702)

-- the same to the ms: lane 0 answers 500 after its request
abbrev pub punctual : List Marked
punctual = opening_with 0 0 ∷ queue 0 0 1 ∷ poll 1 ∷ recover 501 ∷ ask 1 1 501 ++ zeros 10 (Some 0) 501

-- a clock that does not run back: lane 0 answers 399 after its request by a clock that was set back by 400
abbrev pub back : List Marked
back = opening 0 ∷ ask 0 0 1 ++ (poll 200 ∷ recover 700 ∷ ask 1 1 300 ++ zeros 10 (Some 0) 400)

-- E5, a reopening that waits the quiet time: the unit is opened anew 499 after lane 1 was asked, and lane 1 has still to answer
abbrev pub reopened : List Marked
reopened = opening 0 ∷ ask 0 0 1 ++ (zeros 10 (Some 0) 2 ++ (cut ∷ ask 1 1 3 ++ (opening 502 ∷ ask 0 0 502 ++ zeros 10 (Some 1) 502)))

pub record Needed : Type 0 where
  pub noise-comes : Row (log_after noise) (e1 ∷ []) (e1 ∷ []) (e1 ∷ []) (0 ∷ []) (replicate 10 None)
  pub noise-wrong : Refuted CameFrom noise
  pub shifted-comes : Row (log_after shifted) (e1 ∷ []) (e1 ∷ []) (cutting ∷ []) (0 ∷ 1 ∷ []) (None ∷ replicate 10 (Some 0) ++ replicate 9 (Some 1))
  pub shifted-wrong : Refuted CameFrom shifted
  pub early-comes : Row (log_after (early ++ (cut ∷ ask 1 1 3))) (e2 ∷ []) (e2 ∷ []) (e2 ∷ []) (0 ∷ []) (replicate 10 (Some 1))
  pub early-wrong : Refuted CameFrom early
  pub twice-comes : Row (log_after twice) (e3 ∷ []) (e3 ∷ []) (e3 ∷ []) (0 ∷ 1 ∷ []) (replicate 20 (Some 0))
  pub twice-wrong : Refuted CameFrom twice
  pub eleventh-comes : Row (log_after eleventh) (e3 ∷ []) (e3 ∷ []) (e3 ∷ cutting ∷ []) (0 ∷ 1 ∷ []) (replicate 11 (Some 0) ++ replicate 9 (Some 1))
  pub eleventh-wrong : Refuted CameFrom eleventh
  pub late-comes : Row (log_after late) (e4 ∷ []) (answer ∷ []) (e4 ∷ []) (1 ∷ []) (replicate 10 (Some 0))
  pub late-wrong : Refuted CameFrom late
  pub punctual-comes : Row (log_after punctual) (e4 ∷ []) (answer ∷ []) (e4 ∷ []) (1 ∷ []) (replicate 10 (Some 0))
  pub punctual-wrong : Refuted CameFrom punctual
  pub back-comes : Row (log_after back) (e4 ∷ []) (clock ∷ []) (e4 ∷ []) (1 ∷ []) (replicate 10 (Some 0))
  pub back-wrong : Refuted CameFrom back
  pub reopened-comes : Row (log_after reopened) (e5 ∷ []) (reopening ∷ []) (e5 ∷ []) (0 ∷ 0 ∷ []) (replicate 10 (Some 0) ++ replicate 10 (Some 1))
  pub reopened-wrong : Refuted CameFrom reopened

pub needed : Needed
unfolding number_at bytes_of crc_bit crc_bits crc_byte crc_from crc_of telemetry_of payload_of due record_of read_record request_bytes sample_bytes
    delivered_bytes failure_bytes idle_bytes next_bytes ack_bytes wire_bytes timeout_bytes body_bytes answer_bytes since wire latest frame_at
    open_request started_at latest_frame newly_started started_request faulted quiet_since retries timeout_for recovers note turn last_queued existing
    check verdict streak judged rule_for trace_marked log_of since_in requests sent_by at_recovery at_opening always latest_t last_heard
needed =
    record {
      noise-comes = row noise;
      noise-wrong = not-from noise refl refl;
      shifted-comes = row shifted;
      shifted-wrong = not-from shifted refl refl;
      early-comes = row (early ++ (cut ∷ ask 1 1 3));
      early-wrong = not-from early refl refl;
      twice-comes = row twice;
      twice-wrong = not-from twice refl refl;
      eleventh-comes = row eleventh;
      eleventh-wrong = not-from eleventh refl refl;
      late-comes = row late;
      late-wrong = not-from late refl refl;
      punctual-comes = row punctual;
      punctual-wrong = not-from punctual refl refl;
      back-comes = row back;
      back-wrong = not-from back refl refl;
      reopened-comes = row reopened;
      reopened-wrong = not-from reopened refl refl;
    }
