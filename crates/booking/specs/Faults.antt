-- Timeouts, the quiet time, recoveries and the note for 08 (document 01, 'Manager').
use Rattle.std.specs.Prelude.{ℕ, ◌+◌, ◌-◌, ◌*◌, ◌^◌, min, max, Bool, true, false, not, ◌&&◌, [], ◌∷◌, eqb, leb}
use Rattle.std.specs.Prelude.{Option, None, Some, is_some}
use Rattle.base.specs.Choice.{pick}
use Rattle.base.specs.Due.{due}
use Rattle.esc_feedback.specs.declared.answer.EscManagerTimeout.{EscManagerTimeout}
use Rattle.esc_feedback.specs.declared.answer.EscManagerTimeout.TheVariants.{ActuatorAck, TelemetryResponse}
use Rattle.base.specs.Maybe.{only_if}
use Rattle.booking.specs.History.{Opening, Timed, Byte, Past}
use Rattle.booking.specs.Booking.{open_request, started_at}

-- a timeout sets faulted, and a 07 answered yes ends it
unfoldable pub faulted : Past → Bool
faulted [] = false
faulted (e ∷ h) = pick (is_some e.requests.timeout) true (pick e.requests.recovered false (faulted h))

abbrev heard_in : Option Timed → Option Byte → Option ℕ
heard_in (Some a) b = Some a.at
heard_in None None = None
heard_in None (Some b) = Some b.at

abbrev later : Bool → Option ℕ → ℕ → ℕ
later f None q = q
later f (Some t) q = pick f (max q t) q

-- a timeout starts the quiet time at its T; while faulted, a 05 or 03 moves it later, never earlier (03 by its started time)
unfoldable pub quiet_since : Past → ℕ
quiet_since [] = 0
quiet_since (e ∷ h) =
    pick (is_some e.requests.timeout) e.now (later (faulted h) (heard_in e.requests.acknowledged e.wire.byte) (quiet_since h))

-- recovery adds one to retries (saturating); only a delivered sample clears them
unfoldable pub retries : Past → ℕ
retries [] = 0
retries (e ∷ h) =
    pick (is_some e.requests.delivered) 0 (pick e.requests.recovered (min (retries h + 1) (2 ^ 32 - 1)) (retries h))

-- a delivered sample notes the retries that it clears, if they were not 0; 08 hands the note out once
unfoldable pub note : Past → Option ℕ
note [] = None
note (e ∷ h) =
    pick (is_some e.requests.delivered)
    (pick (eqb (retries h) 0) (note h) (Some (retries h)))
    (only_if (not e.taken) (note h))

abbrev expiry : Opening → Timed → Option ℕ → ℕ → Option EscManagerTimeout
expiry o q None now = pick (due q.at now o.config.actuator_ack_timeout_ms) (Some (ActuatorAck q.request)) None
expiry o q (Some started) now = pick (due started now o.config.telemetry_response_timeout_ms) (Some (TelemetryResponse q.request)) None

abbrev pub expiry_of : Opening → Past → Option Timed → ℕ → Option EscManagerTimeout
expiry_of o h None now = None
expiry_of o h (Some q) now = expiry o q (started_at h q.request) now

-- 04 reports an acknowledgement timeout when the open request has had no equal 03 and Due(T of its 02, now, acknowledgement
-- timeout); after that 03, a response timeout when Due(started T of the 03, now, response timeout); otherwise none
unfoldable pub timeout_for : Opening → Past → ℕ → Option EscManagerTimeout
timeout_for o h now = expiry_of o h (open_request h) now

-- recovery needs faulted, disarmed, and now minus quiet start (0 if negative) at least quiet × 2^min(retries, 3)
unfoldable pub recovers : Opening → Past → Bool → ℕ → Bool
recovers o h armed now =
    faulted h && (not armed && leb (o.config.recovery_quiet_ms * 2 ^ min (retries h) 3) (now - quiet_since h))
