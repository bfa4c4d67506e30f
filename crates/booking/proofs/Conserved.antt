-- A request is granted where none is open, and a sample or a timeout ends the one that is: so the counts balance.
use mathlib.Core.Path.{◌≡◌, refl, sym, ◌∙◌, ap}
use mathlib.Core.List.{[], ◌∷◌}
use Rattle.std.specs.Prelude.{Option, None, Some, is_some}
use Rattle.std.proofs.lemmas.Option.{none-some}
use mathlib.Core.Bool.{Bool, true, false, true≢false}
use Prim.Native.Nat.{ℕ}
use native.Mathlib.Omega.{arith}
use Rattle.esc_lanes.specs.declared.request.EscActuatorRequest.{EscActuatorRequest}
use Rattle.esc_lanes.specs.declared.request.EscActuatorAck.{EscActuatorAck}
use Rattle.esc_lanes.specs.declared.request.EscTelemetryUpdate.{EscTelemetryUpdate}
use Rattle.esc_feedback.specs.declared.answer.EscManagerTimeout.{EscManagerTimeout}
use Rattle.esc_feedback.specs.declared.answer.EscManagerTimeout.TheVariants as timeout
use Rattle.esc_records.specs.Admission.{opens}
use Rattle.esc_records.specs.declared.record.Record.{Record}
use Rattle.esc_records.specs.declared.record.Record.TheVariants as kind
use Rattle.esc_idle.specs.declared.idle_verdict.EscIdleQualificationStatus.{EscIdleQualificationStatus}
use Rattle.esc_answers.specs.declared.answer.Answer.TheVariants as answer
use Rattle.booking.specs.History.{Opening, Timed, Past, Since, since, seen}
use Rattle.booking.specs.Wire.{Frame, wire, frame_at, timed}
use Rattle.booking.specs.Booking.{only_the, booked_to, open_request, latest_frame, newly_started, started_request}
use Rattle.booking.specs.Faults.{timeout_for, expiry_of, faulted}
use Rattle.booking.specs.Turns.{existing, names}
use Rattle.booking.specs.Counts.{one, count}
use Rattle.booking.specs.Rule.{ack_answer, wire_answer_of, answer_to}
use Rattle.booking.specs.Run.{run}
use Rattle.booking.specs.Claims.{past_of, Balanced, Conserved}
use Rattle.booking.proofs.Lawful.{Lawful, start, more, lawful-after}

-- what a rule names of the open request is open
only-open : (x : Option Timed) (ok : EscActuatorRequest → Bool) (q : EscActuatorRequest) → only_the x ok ≡ Some q → is_some x ≡ true
only-open None ok q e = absurd (none-some q e)
only-open (Some p) ok q e = refl

existing-free : (o : Opening) (h : Past) (now : ℕ) (q : EscActuatorRequest) → existing o h now ≡ Some q → is_some (open_request h) ≡ false
unfolding existing
existing-free o h now q e = go (faulted h) refl (is_some (open_request h)) refl
  where
    go : (f : Bool) → faulted h ≡ f → (z : Bool) → is_some (open_request h) ≡ z → z ≡ false
    go f k false z = refl
    go true k true z = absurd (none-some q (rw k at e))
    go false k true z = absurd (none-some q (rw (k, z) at e))

granted-balance : (o : Opening) (h : Past) (q : EscActuatorRequest) (now : ℕ) (x : Option EscActuatorRequest) → existing o h now ≡ x
    → Balanced h → Balanced (seen (kind.MarkRequestQueued q now) (answer.Decided (names x q)) ∷ h)
unfolding count open_request
granted-balance o h q now None e b = omega (arith, b)
granted-balance o h q now (Some n) e b = go (names (Some n) q)
  where
    free : one (is_some (open_request h)) ≡ 0
    free = ap one (existing-free o h now n e)

    go : (y : Bool) → Balanced (seen (kind.MarkRequestQueued q now) (answer.Decided y) ∷ h)
    go true = omega (arith, b, free)
    go false = omega (arith, b)

-- a delivered sample ends the open request
acked-balance : (o : Opening) (h : Past) (k : EscActuatorAck) (now : ℕ) (q : Option EscActuatorRequest) → newly_started h k.request ≡ q
    → (f : Option Frame) (says : EscTelemetryUpdate → Option EscIdleQualificationStatus) → Balanced h
    → Balanced (seen (kind.ActuatorAck k now) (answer.Ack (ack_answer q f says)) ∷ h)
unfolding count open_request newly_started
acked-balance o h k now None e f says b = omega (arith, b)
acked-balance o h k now (Some q) e None says b = omega (arith, b)
acked-balance o h k now (Some q) e (Some f) says b = omega (arith, b, ap one (only-open (open_request h) _ q e))

byte-balance : (o : Opening) (h : Past) (x now : ℕ) (q : Option EscActuatorRequest) → started_request h ≡ q
    → (f : Option Frame) (says : EscTelemetryUpdate → Option EscIdleQualificationStatus) → Balanced h
    → Balanced (seen (kind.WireByte x now) (answer.Wire (wire_answer_of
    (booked_to q f) says)) ∷ h)
unfolding count open_request started_request
byte-balance o h x now None e f says b = omega (arith, b)
byte-balance o h x now (Some q) e None says b = omega (arith, b)
byte-balance o h x now (Some q) e (Some f) says b = omega (arith, b, ap one (only-open (open_request h) _ q e))

-- so does a timeout
timeout-open : (o : Opening) (h : Past) (now : ℕ) (x : Option Timed) (t : Option EscManagerTimeout) → expiry_of o h x now ≡ t
    → is_some t ≡ true → is_some x ≡ true
timeout-open o h now None t e k = absurd (true≢false (sym k ∙ ap is_some (sym e)))
timeout-open o h now (Some q) t e k = refl

timeout-balance : (o : Opening) (h : Past) (now : ℕ) (t : Option EscManagerTimeout) → timeout_for o h now ≡ t
    → Balanced h → Balanced (seen (kind.PollTimeout now) (answer.Timeout t) ∷ h)
unfolding count open_request timeout_for
timeout-balance o h now None e b = omega (arith, b)
timeout-balance o h now (Some (timeout.ActuatorAck q)) e b = omega (arith, b, ap one (timeout-open o h now (open_request h) _ e refl))
timeout-balance o h now (Some (timeout.TelemetryResponse q)) e b = omega (arith, b, ap one (timeout-open o h now (open_request h) _ e refl))

balance : (o : Opening) (h : Past) (r : Record) → opens r ≡ false → Balanced h → Balanced (seen r (answer_to o h r) ∷ h)
unfolding count open_request
balance o h (kind.Open c t) f b = absurd (true≢false f)
balance o h (kind.NextRequest now) f b = omega (arith, b)
balance o h (kind.MarkRequestQueued q now) f b = granted-balance o h q now (existing o h now) refl b
balance o h (kind.ActuatorAck k now) f b = acked-balance o h k now (newly_started h k.request) refl (latest_frame h) _ b
balance o h (kind.PollTimeout now) f b = timeout-balance o h now (timeout_for o h now) refl b
balance o h (kind.WireByte x now) f b = byte-balance o h x now (started_request h) refl (timed (frame_at (wire h) x) now) _ b
balance o h kind.WireDiscontinuity f b = omega (arith, b)
balance o h (kind.TryRecover armed now) f b = omega (arith, b)
balance o h kind.TakeBackAfterRetries f b = omega (arith, b)
balance o h kind.RefreshWireStats f b = omega (arith, b)
balance o h (kind.IdleCheck c t) f b = omega (arith, b)
balance o h (kind.IdleStatus now) f b = omega (arith, b)
balance o h kind.Report f b = omega (arith, b)
balance o h (kind.StoredSample l) f b = omega (arith, b)
balance o h (kind.Figures l) f b = omega (arith, b)

balanced : (o : Opening) (h : Past) → Lawful o h → Balanced h
unfolding count open_request
balanced o [] start = refl
balanced o (e ∷ h) (more r f l) = balance o h r f (balanced o h l)

pub conserved : Conserved
unfolding count open_request
conserved cs = go (since (run cs).history) refl
  where
    go : (s : Option Since) → since (run cs).history ≡ s → Balanced (past_of s)
    go None e = refl
    go (Some s) e = balanced s.opening s.past (lawful-after cs s e)
