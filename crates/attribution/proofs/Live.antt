-- Lists on which the claims say something: all that is assumed holds, samples are delivered, and each came from its request.
use mathlib.Core.Path.{refl}
use mathlib.Core.List.{List, [], ◌∷◌, ◌++◌}
use Rattle.std.specs.Prelude.{None, Some}
use lib.ListN.{replicate}
use Rattle.base.specs.BigEndian.{number_at, bytes_of}
use Rattle.blheli_telemetry.specs.Crc.{crc_bit, crc_bits, crc_byte, crc_from, crc_of}
use Rattle.blheli_telemetry.specs.Frame.{telemetry_of, payload_of}
use Rattle.base.specs.Due.{due}
use Rattle.esc_records.specs.Record.{record_of, read_record}
use Rattle.esc_answers.specs.Answer.{
  request_bytes,
  sample_bytes,
  delivered_bytes,
  failure_bytes,
  idle_bytes,
  next_bytes,
  ack_bytes,
  wire_bytes,
  timeout_bytes,
  body_bytes,
  answer_bytes,
}
use Rattle.booking.specs.History.{since}
use Rattle.booking.specs.Wire.{wire, latest, frame_at}
use Rattle.booking.specs.Booking.{open_request, started_at, latest_frame, newly_started, started_request}
use Rattle.booking.specs.Faults.{faulted, quiet_since, retries, timeout_for, recovers, note}
use Rattle.booking.specs.Turns.{turn, last_queued, existing}
use Rattle.booking.specs.IdleRule.{check, verdict, streak, judged}
use Rattle.booking.specs.Rule.{rule_for}
use Rattle.attribution.specs.Marks.{Marked, log_of, log_after, since_in}
use Rattle.attribution.specs.Origin.{requests, sent_by, at_recovery, at_opening}
use Rattle.attribution.specs.Tests.{always}
use Rattle.attribution.specs.Wiring.{while_no_fault, Wiring}
use Rattle.attribution.specs.Clock.{latest_t}
use Rattle.attribution.specs.Times.{last_heard, Timing}
use Rattle.attribution.specs.Cutting.{Cutting}
use Rattle.attribution.specs.Attributed.{CameFrom}
use Rattle.attribution.proofs.ByRule.{trace_marked}
use Rattle.attribution.proofs.Lists.{opening, queue, acknowledge, poll, cut, recover, ask, zeros, e1, e3, Row, row}
use Rattle.attribution.proofs.Newest.{Newest, newest-by}
use Rattle.attribution.proofs.Attributed.{attributed}
use Rattle.attribution.proofs.ByTimes.{attributed-by-times}
use Rattle.attribution.proofs.ByCuts.{attributed-by-cuts}

-- all assumptions of the three forms hold
abbrev pub flight : List Marked
flight =
    -- a frame before its acknowledgement
    opening 0 ∷ queue 0 0 1 ∷ zeros 10 (Some 0) 2 ++ (acknowledge 0 0 3
    -- a byte is lost: no frame, a timeout, noise while faulted, a recovery
    ∷ cut ∷ ask 1 1 4 ++ (zeros 9 (Some 1) 5 ++ (poll 200 ∷ zeros 25 None 201 ++ (recover 701
    ∷ ask 2 2 702 ++ (zeros 10 (Some 2) 703
    -- a cut within a frame: no sample
    ++ (cut ∷ ask 3 3 704 ++ (zeros 4 (Some 3) 705 ++ (cut ∷ zeros 6 (Some 3) 706
    -- a second opening, in which (0, lane 0) is asked again
    ++ (opening 1300 ∷ ask 0 0 1301 ++ zeros 10 (Some 4) 1302)))))))))

-- with cuts, noise while nothing is open and an eleventh byte do no harm
abbrev pub noisy : List Marked
noisy =
    opening 0 ∷ zeros 7 None 1 ++ (cut ∷ ask 0 0 2 ++ (zeros 10 (Some 0) 3
    ++ (zeros 1 (Some 0) 4 ++ (zeros 3 None 4 ++ (cut ∷ ask 1 1 5 ++ zeros 10 (Some 1) 6)))))

pub record Live : Type 0 where
  pub flight-comes : Row (log_after flight) [] [] [] (0 ∷ 2 ∷ 0 ∷ [])
      (replicate 10 (Some 0) ++ (replicate 9 (Some 1) ++ (replicate 25 None ++ (replicate 10 (Some 2) ++ (replicate 10 (Some 3) ++ replicate 10 (Some 0))))))
  pub by-wiring : Newest flight CameFrom
  pub by-times : Newest flight CameFrom
  pub by-cuts : Newest flight CameFrom
  pub noisy-comes : Row (log_after noisy) (e1 ∷ e3 ∷ []) (e1 ∷ e3 ∷ []) [] (0 ∷ 1 ∷ [])
      (replicate 7 None ++ (replicate 11 (Some 0) ++ (replicate 3 None ++ replicate 10 (Some 1))))
  pub noisy-by-cuts : Newest noisy CameFrom

pub live : Live
unfolding number_at bytes_of crc_bit crc_bits crc_byte crc_from crc_of telemetry_of payload_of due record_of read_record request_bytes sample_bytes
    delivered_bytes failure_bytes idle_bytes next_bytes ack_bytes wire_bytes timeout_bytes body_bytes answer_bytes since wire latest frame_at
    open_request started_at latest_frame newly_started started_request faulted quiet_since retries timeout_for recovers note turn last_queued existing
    check verdict streak judged rule_for trace_marked log_of since_in requests sent_by at_recovery at_opening always latest_t last_heard
live =
    record {
      flight-comes = row flight;
      by-wiring = newest-by flight CameFrom (Wiring while_no_fault) (attributed flight) refl (record { e1 = refl; e2 = refl; e3 = refl; e4 = refl; e5 = refl });
      by-times =
          newest-by flight CameFrom Timing (attributed-by-times flight) refl
          (record { e1 = refl; e2 = refl; e3 = refl; clock = refl; answer = refl; reopening = refl });
      by-cuts =
          newest-by flight CameFrom Cutting (attributed-by-cuts flight) refl
          (record { wiring = record { e1 = refl; e2 = refl; e3 = refl; e4 = refl; e5 = refl }; cuts = refl });
      noisy-comes = row noisy;
      noisy-by-cuts =
          newest-by noisy CameFrom Cutting (attributed-by-cuts noisy) refl
          (record { wiring = record { e1 = refl; e2 = refl; e3 = refl; e4 = refl; e5 = refl }; cuts = refl });
    }
