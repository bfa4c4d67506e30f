-- The counts of the report (document 01): of the answers since the opening.
use Rattle.std.specs.Prelude.{ℕ, ◌+◌, ◌-◌, ◌%◌, ◌^◌, min, Bool, true, false, not, ◌&&◌, ◌||◌, [], ◌∷◌, eqb}
use Rattle.std.specs.Prelude.{Option, None, Some, is_some}
use Rattle.base.specs.Choice.{pick}
use Rattle.esc_feedback.specs.declared.answer.EscManagerTimeout.{EscManagerTimeout}
use Rattle.esc_feedback.specs.declared.answer.EscManagerTimeout.TheVariants.{ActuatorAck, TelemetryResponse}
use Rattle.esc_answers.specs.declared.answer.UnitReport.{UnitReport}
use Rattle.booking.specs.History.{Seen, Past}
use Rattle.booking.specs.Wire.{wire, frame_in, wrong_in}
use Rattle.booking.specs.Booking.{open_request}
use Rattle.booking.specs.Faults.{faulted, retries}

-- a test on what was seen, given what came before it
abbrev pub SeenTest : Type 0
SeenTest = Past → Seen → Bool

abbrev pub one : Bool → ℕ
one true = 1
one false = 0

unfoldable pub count : SeenTest → Past → ℕ
count t [] = 0
count t (e ∷ h) = one (t h e) + count t h

abbrev is_ack : Option EscManagerTimeout → Bool
is_ack None = false
is_ack (Some (ActuatorAck q)) = true
is_ack (Some (TelemetryResponse q)) = false

abbrev is_response : Option EscManagerTimeout → Bool
is_response None = false
is_response (Some (ActuatorAck q)) = false
is_response (Some (TelemetryResponse q)) = true

-- the 02s answered yes
abbrev pub queued : SeenTest
queued h e = is_some e.requests.granted

-- the 03s accepted or answered with a sample
abbrev pub started : SeenTest
started h e = e.requests.started

-- the 03s rejected
abbrev pub mismatched : SeenTest
mismatched h e = is_some e.requests.acknowledged && not e.requests.started

-- the 04s answered with a timeout
abbrev pub ack_timeout : SeenTest
ack_timeout h e = is_ack e.requests.timeout

abbrev pub response_timeout : SeenTest
response_timeout h e = is_response e.requests.timeout

-- the 03s and 05s answered with a sample
abbrev pub delivered : SeenTest
delivered h e = is_some e.requests.delivered

-- the 07s answered yes
abbrev pub recovered : SeenTest
recovered h e = e.requests.recovered

-- the parser's samples, and its ten bytes with a wrong check byte
abbrev pub frame_ended : SeenTest
frame_ended h e = is_some (frame_in (wire h) e.wire.byte)

abbrev pub wrong : SeenTest
wrong h e = wrong_in (wire h) e.wire.byte

-- a frame with nothing open is unsolicited
abbrev pub unsolicited : SeenTest
unsolicited h e = frame_ended h e && not (is_some (open_request h))

-- the manager's copy of the parser's counts is renewed only when the parser gives a sample and by 09: what came up to then
unfoldable pub renewed : Past → Past
renewed [] = []
renewed (e ∷ h) = pick (frame_ended h e || e.wire.refreshed) (e ∷ h) (renewed h)

-- own counts wrap at 2^32, the parser's saturate
abbrev pub wraps : ℕ → ℕ
wraps n = n % 2 ^ 32

abbrev pub saturates : ℕ → ℕ
saturates n = min n (2 ^ 32 - 1)

unfoldable pub report_for : Past → UnitReport
report_for h =
    record {
      faulted = faulted h;
      retrying = not (eqb (retries h) 0);
      stats =
          record {
            requests_queued = wraps (count queued h);
            requests_started = wraps (count started h);
            actuator_ack_timeouts = wraps (count ack_timeout h);
            telemetry_response_timeouts = wraps (count response_timeout h);
            mismatched_acks = wraps (count mismatched h);
            unsolicited_frames = wraps (count unsolicited h);
            recoveries = wraps (count recovered h);
            wire =
                record {
                  valid_frames = saturates (count frame_ended (renewed h));
                  crc_failures = saturates (count wrong (renewed h));
                  discarded_bytes = saturates (count wrong (renewed h));
                };
          };
    }
