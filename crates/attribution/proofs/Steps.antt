-- What one more entry of a log can be: the rule's answer to each kind of record, by what it shows of requests, wire and openings.
use mathlib.Core.Path.{◌≡◌, refl}
use Rattle.std.specs.Prelude.{Option, None, Some}
use Rattle.std.proofs.lemmas.Option.{none-some}
use mathlib.Core.Bool.{Bool, true, false, not, true≢false}
use Prim.Native.Nat.{ℕ, ◌-◌, ◌*◌, ◌^◌, ◌≤◌, min}
use borrow.Author.Tests.{leb-true}
use Rattle.base.specs.Due.{due}
use Rattle.esc_lanes.specs.declared.request.EscActuatorRequest.{EscActuatorRequest}
use Rattle.esc_lanes.specs.declared.request.EscActuatorAck.{EscActuatorAck}
use Rattle.esc_lanes.specs.declared.request.EscTelemetryUpdate.{EscTelemetryUpdate}
use Rattle.esc_feedback.specs.declared.answer.EscManagerTimeout.{EscManagerTimeout}
use Rattle.esc_records.specs.Admission.{opens}
use Rattle.esc_records.specs.declared.record.Record.{Record}
use Rattle.esc_records.specs.declared.record.Record.TheVariants as kind
use Rattle.esc_idle.specs.declared.idle_verdict.EscIdleQualificationStatus.{EscIdleQualificationStatus}
use Rattle.esc_answers.specs.declared.answer.Answer.TheVariants as answer
use Rattle.booking.specs.History.{Opening, Timed, Byte, Seen, Past, seen}
use Rattle.booking.specs.Wire.{Frame, wire, frame_at, timed}
use Rattle.booking.specs.Booking.{booked_to, open_request, latest_frame, newly_started, started_request}
use Rattle.booking.specs.Faults.{faulted, quiet_since, retries, timeout_for, recovers}
use Rattle.booking.specs.Turns.{last_queued, due_since, existing, names}
use Rattle.booking.specs.Rule.{ack_answer, wire_answer_of, answer_to}
use Rattle.base.proofs.Both.{and_left, and_right}

-- all of an entry that attribution reads, but a cut and the time
pub record Shows (e : Seen) (g : Option Timed) (b : Option Byte) (d : Option EscTelemetryUpdate) (t : Option EscManagerTimeout) (r : Bool) : Type 0 where
  pub opening : e.opening ≡ None
  pub granted : e.requests.granted ≡ g
  pub byte : e.wire.byte ≡ b
  pub delivered : e.requests.delivered ≡ d
  pub timeout : e.requests.timeout ≡ t
  pub recovered : e.requests.recovered ≡ r

-- no grant, timeout or recovery, whatever its byte and its sample
abbrev pub Passes : Seen → Type 0
Passes e = Shows e None e.wire.byte e.requests.delivered None false

pub passing : (e : Seen) {b : Option Byte} {d : Option EscTelemetryUpdate} → Shows e None b d None false → Passes e
passing e s = record { opening = s.opening; granted = s.granted; byte = refl; delivered = refl; timeout = s.timeout; recovered = s.recovered }

-- a request exists: none is open, no fault stands, and the boot delay and the period are due
pub record Free (o : Opening) (h : Past) (now : ℕ) : Type 0 where
  pub unasked : open_request h ≡ None
  pub calm : faulted h ≡ false
  pub booted : due o.boot now o.config.boot_delay_ms ≡ true
  pub paced : due_since (last_queued h) now o.config.request_period_ms ≡ true

pub data Step (o : Opening) (h : Past) (e : Seen) : Type 0 where
  -- nothing of these
  plain : Shows e None None None None false → Step o h e
  -- a 02 answered yes
  grants : (q : EscActuatorRequest) → Free o h e.now → Shows e (Some (record { request = q; at = e.now })) None None None false → Step o h e
  -- a 05
  takes : (b : ℕ) → e.requests.acknowledged ≡ None
      → Shows e None (Some (record { value = b; at = e.now })) (booked_to (started_request h) (timed (frame_at (wire h) b) e.now)) None false → Step o h e
  -- a 03
  answers : (q : EscActuatorRequest) → Shows e None None (booked_to (newly_started h q) (latest_frame h)) None false → Step o h e
  -- a 04 answered with a timeout
  ends : (t : EscManagerTimeout) → Shows e None None None (Some t) false → Step o h e
  -- a 07 answered yes: a fault stood, and the quiet time had passed
  restarts : e.wire.cut ≡ true → faulted h ≡ true → o.config.recovery_quiet_ms * 2 ^ min (retries h) 3 ≤ e.now - quiet_since h
      → Shows e None None None None true → Step o h e

shows : (e : Seen) → e.opening ≡ None → Shows e e.requests.granted e.wire.byte e.requests.delivered e.requests.timeout e.requests.recovered
shows e o = record { opening = o; granted = refl; byte = refl; delivered = refl; timeout = refl; recovered = refl }

module _ (o : Opening) (h : Past) where
  existing-free : (now : ℕ) (q : EscActuatorRequest) → existing o h now ≡ Some q → Free o h now
  unfolding existing
  existing-free now q e = go (faulted h) refl (open_request h) refl (due o.boot now _) refl (due_since (last_queued h) now _) refl
    where
      go : (f : Bool) → faulted h ≡ f → (x : Option Timed) → open_request h ≡ x
          → (b : Bool) → due o.boot now o.config.boot_delay_ms ≡ b → (p : Bool) → due_since (last_queued h) now o.config.request_period_ms ≡ p
          → Free o h now
      go false f None x true b true p = record { unasked = x; calm = f; booted = b; paced = p }
      go true f x y b z p w = absurd (none-some q (rw f at e))
      go false f (Some r) y b z p w = absurd (none-some q (rw (f, y) at e))
      go false f None y false z p w = absurd (none-some q (rw (f, y, z) at e))
      go false f None y true z false w = absurd (none-some q (rw (f, y, z, w) at e))

  mark-step : (q : EscActuatorRequest) (now : ℕ) → Step o h (seen (kind.MarkRequestQueued q now) (answer.Decided (names (existing o h now) q)))
  mark-step q now = go (existing o h now) refl
    where
      go : (x : Option EscActuatorRequest) → existing o h now ≡ x → Step o h (seen (kind.MarkRequestQueued q now) (answer.Decided (names x q)))
      go None e = plain (shows _ refl)
      go (Some p) e = named (names (Some p) q)
        where
          named : (y : Bool) → Step o h (seen (kind.MarkRequestQueued q now) (answer.Decided y))
          named true = grants q (existing-free now p e) (shows _ refl)
          named false = plain (shows _ refl)

  ack-step : (k : EscActuatorAck) (now : ℕ) (says : EscTelemetryUpdate → Option EscIdleQualificationStatus)
      → Step o h (seen (kind.ActuatorAck k now) (answer.Ack (ack_answer (newly_started h k.request) (latest_frame h) says)))
  ack-step k now says = answers k.request (go (newly_started h k.request) (latest_frame h))
    where
      go : (x : Option EscActuatorRequest) (f : Option Frame)
          → Shows (seen (kind.ActuatorAck k now) (answer.Ack (ack_answer x f says))) None None (booked_to x f) None false
      go None f = shows _ refl
      go (Some q) None = shows _ refl
      go (Some q) (Some f) = shows _ refl

  byte_step : (b now : ℕ) (says : EscTelemetryUpdate → Option EscIdleQualificationStatus)
      → Step o h (seen (kind.WireByte b now) (answer.Wire (wire_answer_of (booked_to (started_request h) (timed (frame_at (wire h) b) now)) says)))
  byte_step b now says = takes b refl (go (booked_to (started_request h) (timed (frame_at (wire h) b) now)))
    where
      go : (u : Option EscTelemetryUpdate)
          → Shows (seen (kind.WireByte b now) (answer.Wire (wire_answer_of u says))) None (Some (record { value = b; at = now })) u None false
      go None = shows _ refl
      go (Some u) = shows _ refl

  poll-step : (now : ℕ) (t : Option EscManagerTimeout) → Step o h (seen (kind.PollTimeout now) (answer.Timeout t))
  poll-step now None = plain (shows _ refl)
  poll-step now (Some t) = ends t (shows _ refl)

  recover-step : (armed : Bool) (now : ℕ) → Step o h (seen (kind.TryRecover armed now) (answer.Decided (recovers o h armed now)))
  unfolding recovers
  recover-step armed now = go (recovers o h armed now) refl
    where
      go : (y : Bool) → recovers o h armed now ≡ y → Step o h (seen (kind.TryRecover armed now) (answer.Decided y))
      go false e = plain (shows _ refl)
      go true e =
          restarts refl (and_left (faulted h) _ e) (leb-true _ _ (and_right (not armed) _ (and_right (faulted h) _ e)))
          (shows _ refl)

  pub step : (r : Record) → opens r ≡ false → Step o h (seen r (answer_to o h r))
  step (kind.Open c t) f = absurd (true≢false f)
  step (kind.NextRequest now) f = plain (shows _ refl)
  step (kind.MarkRequestQueued q now) f = mark-step q now
  step (kind.ActuatorAck k now) f = ack-step k now _
  step (kind.PollTimeout now) f = poll-step now (timeout_for o h now)
  step (kind.WireByte b now) f = byte_step b now _
  step kind.WireDiscontinuity f = plain (shows _ refl)
  step (kind.TryRecover armed now) f = recover-step armed now
  step kind.TakeBackAfterRetries f = plain (shows _ refl)
  step kind.RefreshWireStats f = plain (shows _ refl)
  step (kind.IdleCheck c t) f = plain (shows _ refl)
  step (kind.IdleStatus now) f = plain (shows _ refl)
  step kind.Report f = plain (shows _ refl)
  step (kind.StoredSample n) f = plain (shows _ refl)
  step (kind.Figures n) f = plain (shows _ refl)
