-- The idle check's six statuses, by the rule alone, on closed lists of records: 'qualified-only-if' is not empty.
use mathlib.Core.Path.{◌≡◌, refl}
use mathlib.Core.List.{List, [], ◌∷◌, ◌++◌, map}
use Rattle.std.specs.Prelude.{Option, None, Some}
use Prim.Native.Nat.{ℕ}
use Rattle.base.specs.BigEndian.{number_at, bytes_of}
use Rattle.blheli_telemetry.specs.Crc.{crc_bit, crc_bits, crc_byte, crc_from, crc_of}
use Rattle.base.specs.Reply.{Reply, accepted, refused}
use Rattle.blheli_telemetry.specs.Frame.{telemetry_of, payload_of}
use Rattle.base.specs.Due.{due}
use Rattle.esc_lanes.specs.declared.output.Lane.{Lane}
use Rattle.esc_lanes.specs.declared.output.Lane.TheVariants.{Output1, Output2, Output3, Output4}
use Rattle.esc_idle.specs.declared.idle_verdict.EscIdleQualificationFailure.TheVariants.{InvalidConfig, Overspeed, Timeout}
use Rattle.esc_idle.specs.declared.idle_verdict.EscIdleQualificationStatus.TheVariants.{Pending, Qualified, Failed}
use Rattle.esc_records.specs.Record.{record_of, read_record}
use Rattle.esc_answers.specs.Answer.{request_bytes, sample_bytes, delivered_bytes, failure_bytes, idle_bytes, ack_bytes, wire_bytes, body_bytes, answer_bytes}
use Rattle.esc_answers.specs.declared.answer.Answer.{Answer}
use Rattle.esc_idle.specs.declared.idle_verdict.EscIdleQualificationStatus.{EscIdleQualificationStatus}
use Rattle.booking.specs.History.{History, said_by, Past, since}
use Rattle.booking.specs.Wire.{wire, latest, frame_at}
use Rattle.booking.specs.Booking.{open_request, started_at, latest_frame, newly_started, started_request}
use Rattle.booking.specs.Faults.{faulted}
use Rattle.booking.specs.Turns.{turn, last_queued, existing}
use Rattle.booking.specs.IdleRule.{check, verdict, valid, erpm, streak, judged}
use Rattle.booking.specs.Qualified.{counted}
use Rattle.booking.specs.Rule.{rule_for, trace_of}
use Rattle.booking.proofs.Calls.{roomy, open', queue, acknowledge, frame}
use Rattle.booking.proofs.Live.{past_by}

-- max 100, grace 10, timeout 1000, age 200
abbrev checking : ℕ → ℕ → List ℕ
checking low required = 0x0a ∷ bytes_of 2 low ++ (bytes_of 2 100 ++ (bytes_of 4 10 ++ (bytes_of 4 1000 ++ (bytes_of 4 200 ++ (required ∷ bytes_of 8 0)))))

abbrev asking : ℕ → List ℕ
asking t = 0x0b ∷ bytes_of 8 t

-- a request granted and started at t, and the frame of a speed
abbrev reading : ℕ → ℕ → ℕ → ℕ → List (List ℕ)
reading s l erpm t = queue s l t ∷ acknowledge s l t t ∷ frame t erpm

abbrev said_in : Reply Answer → Option (Option EscIdleQualificationStatus)
said_in (accepted a) = (said_by a).status
said_in (refused n) = None

abbrev newest_of : History → Option (Option EscIdleQualificationStatus)
newest_of [] = None
newest_of (e ∷ h) = said_in e.reply

-- what the rule says to the last of these records
abbrev last : List (List ℕ) → Option (Option EscIdleQualificationStatus)
last records = newest_of (trace_of [] (map roomy records))

-- every limit just met: two counted samples a lane where two are required, lane 2 at max and lane 3 at min, and the newest of
-- lane 0 200 old at the last record; a reading of lane 0 within grace and one below min do no harm
abbrev qualifying : List (List ℕ)
qualifying =
    open'
    ∷ checking 30 2
    ∷ reading 0 0 101 9
    ++ (reading 1 1 29 10
    ++ (reading 2 2 100 20
    ++ (reading 3 3 30 20
    ++ (reading 4 0 60 20
    ++ (reading 5 1 60 20
    ++ (reading 6 2 100 20
    ++ (reading 7 3 30 20
    ++ (reading 8 0 60 20
    ++ reading 9 1 60 220))))))))

pub statuses : (last (open' ∷ asking 5 ∷ []) ≡ Some None)
    × (last (open' ∷ checking 30 1 ∷ reading 0 0 60 5) ≡ Some (Some Pending))
    × (last qualifying ≡ Some (Some Qualified))
    × (last (open' ∷ checking 0 1 ∷ asking 5 ∷ []) ≡ Some (Some (Failed InvalidConfig)))
    × (last (open' ∷ checking 30 1 ∷ reading 0 0 60 20 ++ reading 1 1 101 20) ≡ Some (Some (Failed (Overspeed (record { 0 = Output2 }) 101))))
    × (last (open' ∷ checking 30 1 ∷ reading 0 0 60 750 ++ (reading 1 1 60 850 ++ (reading 2 2 29 900 ++ (asking 1000 ∷ [])))) ≡ Some (Some
    (Failed (Timeout (0 ∷ 1 ∷ 0 ∷ 0 ∷ [])))))
unfolding number_at bytes_of crc_bit crc_bits crc_byte crc_from crc_of telemetry_of payload_of due record_of read_record request_bytes sample_bytes
    delivered_bytes failure_bytes idle_bytes ack_bytes wire_bytes body_bytes answer_bytes since wire latest frame_at open_request started_at
    latest_frame newly_started started_request faulted turn last_queued existing check verdict valid streak judged rule_for trace_of
statuses = (refl, refl, refl, refl, refl, refl)

abbrev before : Past → Past
before [] = []
before (e ∷ h) = h

-- it is the first verdict; and what each lane's counted samples say, newest first
pub first : (verdict (before (past_by qualifying)) ≡ None)
    × (map (λ (l : Lane). map erpm (counted (past_by qualifying) l)) (Output1 ∷ Output2 ∷ Output3 ∷ Output4 ∷ [])
    ≡ (60 ∷ 60 ∷ []) ∷ (60 ∷ 60 ∷ 29 ∷ []) ∷ (100 ∷ 100 ∷ []) ∷ (30 ∷ 30 ∷ []) ∷ [])
unfolding number_at bytes_of crc_bit crc_bits crc_byte crc_from crc_of telemetry_of payload_of due record_of read_record request_bytes sample_bytes
    delivered_bytes failure_bytes idle_bytes ack_bytes wire_bytes body_bytes answer_bytes since wire latest frame_at open_request started_at
    latest_frame newly_started started_request faulted turn last_queued existing check verdict valid streak judged counted rule_for trace_of
first = (refl, refl)
