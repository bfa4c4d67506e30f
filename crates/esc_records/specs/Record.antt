-- The records (document 01, 'Records'): the fields of each kind, and the refusals 4 to 7 in their order.
use Rattle.std.specs.Prelude.{ℕ, ◌+◌, Bool, true, false, List, [], ◌∷◌, eqb, leb, length, get_or}
use Rattle.base.specs.Choice.{pick}
use Rattle.base.specs.Reply.{Reply, accepted, refused}
use Rattle.base.specs.BigEndian.{number_at}
use Rattle.esc_lanes.specs.Output.{output_at}
use Rattle.esc_lanes.specs.declared.request.EscActuatorRequest.{EscActuatorRequest}
use Rattle.esc_feedback.specs.declared.config.EscManagerConfig.{EscManagerConfig}
use Rattle.esc_idle.specs.declared.idle_config.EscIdleQualificationConfig.{EscIdleQualificationConfig}
use Rattle.esc_records.specs.declared.record.Record.{Record}
use Rattle.esc_records.specs.declared.record.Record.TheVariants as kind

-- fields: T is a time (8 bytes), S a sequence (4), L a lane (1)
abbrev pub time_at : List ℕ → ℕ → ℕ
time_at s at = number_at 8 s at

-- S L
abbrev pub request_at : List ℕ → ℕ → EscActuatorRequest
request_at s at = record { sequence = number_at 4 s at; output = output_at (get_or s (at + 4) 0) }

-- how many bytes a record of each kind has, its kind among them
abbrev pub width_of : ℕ → ℕ
width_of k = get_or (29 ∷ 9 ∷ 14 ∷ 22 ∷ 9 ∷ 10 ∷ 1 ∷ 10 ∷ 1 ∷ 1 ∷ 26 ∷ 9 ∷ 1 ∷ 2 ∷ 2 ∷ []) k 0

-- boot delay, period, acknowledgement timeout, response timeout, quiet
abbrev pub settings_of : List ℕ → EscManagerConfig
settings_of s =
    record {
      boot_delay_ms = number_at 4 s 1;
      request_period_ms = number_at 4 s 5;
      actuator_ack_timeout_ms = number_at 4 s 9;
      telemetry_response_timeout_ms = number_at 4 s 13;
      recovery_quiet_ms = number_at 4 s 17;
    }

-- min, max, grace, timeout, age, required
abbrev pub idle_settings_of : List ℕ → EscIdleQualificationConfig
idle_settings_of s =
    record {
      min_erpm_div100 = number_at 2 s 1;
      max_erpm_div100 = number_at 2 s 3;
      spinup_grace_ms = number_at 4 s 5;
      timeout_ms = number_at 4 s 9;
      max_sample_age_ms = number_at 4 s 13;
      required_consecutive_samples = number_at 1 s 17;
    }

-- the record of each kind, 00 to 0e in this order
unfoldable pub record_of : List ℕ → Record
record_of s =
    get_or
    (kind.Open (settings_of s) (time_at s 21)
    ∷ kind.NextRequest (time_at s 1)
    ∷ kind.MarkRequestQueued (request_at s 1) (time_at s 6)
    ∷ kind.ActuatorAck (record { request = request_at s 1; started_at_ms = time_at s 6 }) (time_at s 14)
    ∷ kind.PollTimeout (time_at s 1)
    ∷ kind.WireByte (get_or s 1 0) (time_at s 2)
    ∷ kind.WireDiscontinuity
    ∷ kind.TryRecover (eqb (get_or s 1 0) 1) (time_at s 2)
    ∷ kind.TakeBackAfterRetries
    ∷ kind.RefreshWireStats
    ∷ kind.IdleCheck (idle_settings_of s) (time_at s 18)
    ∷ kind.IdleStatus (time_at s 1)
    ∷ kind.Report
    ∷ kind.StoredSample (output_at (get_or s 1 0))
    ∷ kind.Figures (output_at (get_or s 1 0))
    ∷ [])
    (get_or s 0 0)
    kind.Report

-- where a kind has its lane; 0 where it has none
abbrev pub lane_place : ℕ → ℕ
lane_place k = get_or (0 ∷ 0 ∷ 5 ∷ 5 ∷ 0 ∷ 0 ∷ 0 ∷ 0 ∷ 0 ∷ 0 ∷ 0 ∷ 0 ∷ 0 ∷ 1 ∷ 1 ∷ []) k 0

-- the kinds are 00 to 0e
abbrev pub last_kind : ℕ
last_kind = 0x0e

-- 4: record empty, or first byte above 0e
abbrev pub known_kind : List ℕ → Bool
known_kind [] = false
known_kind (k ∷ s) = leb k last_kind

-- 6: output byte above 3
abbrev pub lane_fits : List ℕ → Bool
lane_fits s = pick (eqb (lane_place (get_or s 0 0)) 0) true (leb (get_or s (lane_place (get_or s 0 0)) 0) 3)

-- 7: armed byte above 1
abbrev pub flag_fits : List ℕ → Bool
flag_fits s = pick (eqb (get_or s 0 0) 0x07) (leb (get_or s 1 0) 1) true

unfoldable pub read_record : List ℕ → Reply Record
read_record s =
    pick (known_kind s)
    (pick (eqb (length s) (width_of (get_or s 0 0)))
    (pick (lane_fits s) (pick (flag_fits s) (accepted (record_of s)) (refused 7)) (refused 6))
    (refused 5))
    (refused 4)
