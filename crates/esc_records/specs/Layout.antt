-- How wide each field of a record is, and where it begins: fields lie one behind the other, behind the kind. And the record that they make.
use Rattle.std.specs.Prelude.{ℕ, zero, suc, ◌+◌, ◌/◌, ◌%◌, List, [], ◌∷◌, eqb, get_or}
use Rattle.base.specs.BigEndian.{number_at}
use Rattle.esc_lanes.specs.Output.{output_at}
use Rattle.esc_lanes.specs.declared.request.EscActuatorRequest.{EscActuatorRequest}
use Rattle.esc_records.specs.declared.record.Record.{Record}
use Rattle.esc_records.specs.declared.record.Record.TheVariants as kind

-- T has 8 bytes, S 4, L 1, and so on: a hexadecimal digit for each field of a kind, the first field's first; 00 to 0e in this order
unfoldable pub layouts : List ℕ
layouts =
    0x4444480
    ∷ 0x8000000
    ∷ 0x4180000
    ∷ 0x4188000
    ∷ 0x8000000
    ∷ 0x1800000
    ∷ 0x0000000
    ∷ 0x1800000
    ∷ 0x0000000
    ∷ 0x0000000
    ∷ 0x2244418
    ∷ 0x8000000
    ∷ 0x0000000
    ∷ 0x1000000
    ∷ 0x1000000
    ∷ []

abbrev pub layout_of : ℕ → ℕ
layout_of k = get_or layouts k 0

-- the seven digits
abbrev pub digits : ℕ → List ℕ
digits n =
    n / 0x1000000 % 16
    ∷ n / 0x100000 % 16
    ∷ n / 0x10000 % 16
    ∷ n / 0x1000 % 16
    ∷ n / 0x100 % 16
    ∷ n / 0x10 % 16
    ∷ n % 16
    ∷ []

unfoldable pub field_widths : ℕ → List ℕ
field_widths k = digits (layout_of k)

-- the width of field i, 0 past the last
abbrev pub width : List ℕ → ℕ → ℕ
width ws i = get_or ws i 0

-- where field i begins: behind the kind and the fields before it
abbrev pub place : List ℕ → ℕ → ℕ
place ws zero = 1
place ws (suc i) = place ws i + width ws i

-- field i of a record of kind k
abbrev pub field : ℕ → List ℕ → ℕ → ℕ
field k s i = number_at (width (field_widths k) i) s (place (field_widths k) i)

-- S L, the first two fields
abbrev pub request_field : ℕ → List ℕ → EscActuatorRequest
request_field k s = record { sequence = field k s 0; output = output_at (field k s 1) }

-- the record of each kind by its fields in their order, 00 to 0e
unfoldable pub fielded : List ℕ → Record
fielded s =
    get_or
    (kind.Open
    (record {
      boot_delay_ms = field 0x00 s 0;
      request_period_ms = field 0x00 s 1;
      actuator_ack_timeout_ms = field 0x00 s 2;
      telemetry_response_timeout_ms = field 0x00 s 3;
      recovery_quiet_ms = field 0x00 s 4;
    })
    (field 0x00 s 5)
    ∷ kind.NextRequest (field 0x01 s 0)
    ∷ kind.MarkRequestQueued (request_field 0x02 s) (field 0x02 s 2)
    ∷ kind.ActuatorAck (record { request = request_field 0x03 s; started_at_ms = field 0x03 s 2 }) (field 0x03 s 3)
    ∷ kind.PollTimeout (field 0x04 s 0)
    ∷ kind.WireByte (field 0x05 s 0) (field 0x05 s 1)
    ∷ kind.WireDiscontinuity
    ∷ kind.TryRecover (eqb (field 0x07 s 0) 1) (field 0x07 s 1)
    ∷ kind.TakeBackAfterRetries
    ∷ kind.RefreshWireStats
    ∷ kind.IdleCheck
    (record {
      min_erpm_div100 = field 0x0a s 0;
      max_erpm_div100 = field 0x0a s 1;
      spinup_grace_ms = field 0x0a s 2;
      timeout_ms = field 0x0a s 3;
      max_sample_age_ms = field 0x0a s 4;
      required_consecutive_samples = field 0x0a s 5;
    })
    (field 0x0a s 6)
    ∷ kind.IdleStatus (field 0x0b s 0)
    ∷ kind.Report
    ∷ kind.StoredSample (output_at (field 0x0d s 0))
    ∷ kind.Figures (output_at (field 0x0e s 0))
    ∷ [])
    (get_or s 0 0)
    kind.Report
