-- Document 01's table of records, of the rule itself, by computation: a record of each kind, field by field, with no two bytes
-- equal, and each refusal of reading.
use mathlib.Core.Path.{◌≡◌, refl}
use mathlib.Core.Bool.{true, false}
use mathlib.Core.List.{[], ◌∷◌, ◌++◌}
use Rattle.base.specs.Reply.{accepted, refused}
use Rattle.base.specs.BigEndian.{number_at}
use Rattle.esc_lanes.specs.declared.output.Lane.{Lane}
use Rattle.esc_lanes.specs.declared.output.Lane.TheVariants.{Output1, Output2, Output3, Output4}
use Rattle.esc_lanes.specs.declared.output.EscOutput.{EscOutput}
use Rattle.esc_lanes.specs.declared.request.EscActuatorRequest.{EscActuatorRequest}
use Rattle.esc_records.specs.Record.{record_of, read_record}
use Rattle.esc_records.specs.declared.record.Record.TheVariants as kind
use Rattle.base.proofs.Rising.{rising}

abbrev on : Lane → EscOutput
on l = record { 0 = l }

-- the request of sequence 11121314
abbrev request : Lane → EscActuatorRequest
request l = record { sequence = 0x11121314; output = on l }

-- Fields are big-endian: T is a time in ms (8 bytes), S a sequence (4), L a lane (1)
pub record RecordCases : Type 0 where
  -- 00: boot delay, period, acknowledgement timeout, response timeout, quiet (4 each), boot T
  pub record-00 : read_record (0x00 ∷ rising 28 0x01)
      ≡ accepted (kind.Open
      (record {
        boot_delay_ms = 0x01020304;
        request_period_ms = 0x05060708;
        actuator_ack_timeout_ms = 0x090a0b0c;
        telemetry_response_timeout_ms = 0x0d0e0f10;
        recovery_quiet_ms = 0x11121314;
      })
      0x15161718191a1b1c)
  -- 01: T
  pub record-01 : read_record (0x01 ∷ rising 8 0x11) ≡ accepted (kind.NextRequest 0x1112131415161718)
  -- 02: S L T
  pub record-02 : read_record (0x02 ∷ rising 4 0x11 ++ 0x01 ∷ rising 8 0x15)
      ≡ accepted (kind.MarkRequestQueued (request Output2) 0x15161718191a1b1c)
  -- 03: S L started T, now T
  pub record-03 : read_record (0x03 ∷ rising 4 0x11 ++ 0x02 ∷ rising 16 0x15)
      ≡ accepted (kind.ActuatorAck (record { request = request Output3; started_at_ms = 0x15161718191a1b1c }) 0x1d1e1f2021222324)
  -- 04: T
  pub record-04 : read_record (0x04 ∷ rising 8 0x11) ≡ accepted (kind.PollTimeout 0x1112131415161718)
  -- 05: byte, T
  pub record-05 : read_record (0x05 ∷ 0xa1 ∷ rising 8 0x11) ≡ accepted (kind.WireByte 0xa1 0x1112131415161718)
  -- 06: none
  pub record-06 : read_record (0x06 ∷ []) ≡ accepted kind.WireDiscontinuity
  -- 07: armed 0 or 1, T
  pub record-07-armed : read_record (0x07 ∷ 0x01 ∷ rising 8 0x11) ≡ accepted (kind.TryRecover true 0x1112131415161718)
  pub record-07-disarmed : read_record (0x07 ∷ 0x00 ∷ rising 8 0x11) ≡ accepted (kind.TryRecover false 0x1112131415161718)
  -- 08 and 09: none
  pub record-08 : read_record (0x08 ∷ []) ≡ accepted kind.TakeBackAfterRetries
  pub record-09 : read_record (0x09 ∷ []) ≡ accepted kind.RefreshWireStats
  -- 0a: min, max (2 each), grace, timeout, age (4 each), required (1), start T
  pub record-0a : read_record (0x0a ∷ rising 25 0x11)
      ≡ accepted (kind.IdleCheck
      (record {
        min_erpm_div100 = 0x1112;
        max_erpm_div100 = 0x1314;
        spinup_grace_ms = 0x15161718;
        timeout_ms = 0x191a1b1c;
        max_sample_age_ms = 0x1d1e1f20;
        required_consecutive_samples = 0x21;
      })
      0x2223242526272829)
  -- 0b: T
  pub record-0b : read_record (0x0b ∷ rising 8 0x11) ≡ accepted (kind.IdleStatus 0x1112131415161718)
  -- 0c: none
  pub record-0c : read_record (0x0c ∷ []) ≡ accepted kind.Report
  -- 0d: L
  pub record-0d-0 : read_record (0x0d ∷ 0x00 ∷ []) ≡ accepted (kind.StoredSample (on Output1))
  pub record-0d-1 : read_record (0x0d ∷ 0x01 ∷ []) ≡ accepted (kind.StoredSample (on Output2))
  pub record-0d-2 : read_record (0x0d ∷ 0x02 ∷ []) ≡ accepted (kind.StoredSample (on Output3))
  pub record-0d-3 : read_record (0x0d ∷ 0x03 ∷ []) ≡ accepted (kind.StoredSample (on Output4))
  -- 0e: L
  pub record-0e-0 : read_record (0x0e ∷ 0x00 ∷ []) ≡ accepted (kind.Figures (on Output1))
  pub record-0e-1 : read_record (0x0e ∷ 0x01 ∷ []) ≡ accepted (kind.Figures (on Output2))
  pub record-0e-2 : read_record (0x0e ∷ 0x02 ∷ []) ≡ accepted (kind.Figures (on Output3))
  pub record-0e-3 : read_record (0x0e ∷ 0x03 ∷ []) ≡ accepted (kind.Figures (on Output4))
  -- 4 kind: record empty, or first byte above 0e
  pub empty : read_record [] ≡ refused 4
  pub unknown : read_record (0x0f ∷ []) ≡ refused 4
  -- 5 length: byte count not the kind's; the lowest applicable number is given
  pub short : read_record (0x01 ∷ rising 7 0x11) ≡ refused 5
  pub long : read_record (0x01 ∷ rising 9 0x11) ≡ refused 5
  pub long-and-no-lane : read_record (0x0d ∷ 0x04 ∷ 0x05 ∷ []) ≡ refused 5
  -- 6 lane: output byte above 3
  pub no-lane-02 : read_record (0x02 ∷ rising 4 0x11 ++ 0x04 ∷ rising 8 0x15) ≡ refused 6
  pub no-lane-03 : read_record (0x03 ∷ rising 4 0x11 ++ 0x04 ∷ rising 16 0x15) ≡ refused 6
  pub no-lane-0d : read_record (0x0d ∷ 0x04 ∷ []) ≡ refused 6
  pub no-lane-0e : read_record (0x0e ∷ 0x04 ∷ []) ≡ refused 6
  -- 7 flag: armed byte above 1
  pub no_flag : read_record (0x07 ∷ 0x02 ∷ rising 8 0x11) ≡ refused 7

pub record-cases : RecordCases
unfolding number_at record_of read_record
record-cases =
    record {
      record-00 = refl;
      record-01 = refl;
      record-02 = refl;
      record-03 = refl;
      record-04 = refl;
      record-05 = refl;
      record-06 = refl;
      record-07-armed = refl;
      record-07-disarmed = refl;
      record-08 = refl;
      record-09 = refl;
      record-0a = refl;
      record-0b = refl;
      record-0c = refl;
      record-0d-0 = refl;
      record-0d-1 = refl;
      record-0d-2 = refl;
      record-0d-3 = refl;
      record-0e-0 = refl;
      record-0e-1 = refl;
      record-0e-2 = refl;
      record-0e-3 = refl;
      empty = refl;
      unknown = refl;
      short = refl;
      long = refl;
      long-and-no-lane = refl;
      no-lane-02 = refl;
      no-lane-03 = refl;
      no-lane-0d = refl;
      no-lane-0e = refl;
      no_flag = refl;
    }
