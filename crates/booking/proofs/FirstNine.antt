-- Reading and writing a frame undo each other, so the payload in the answer is the first nine of the ten bytes that were read.
use mathlib.Core.Path.{◌≡◌, refl, sym, ◌∙◌, ap}
use mathlib.Core.List.{List, ◌∷◌, ◌++◌}
use Rattle.std.specs.Prelude.{Option, None, Some, is_some}
use Rattle.std.proofs.lemmas.Option.{none-some}
use mathlib.Core.Bool.{Bool, true, false, false≢true}
use Prim.Native.Nat.{ℕ}
use lib.ListN.{take}
use Rattle.base.specs.BigEndian.{bytes_of}
use Rattle.blheli_telemetry.specs.Frame.{telemetry_of, payload_of, frame_of}
use Rattle.blheli_telemetry.proofs.FrameLaws.{read-good}
use Rattle.blheli_telemetry.proofs.RoundTrip.{written_read}
use Rattle.esc_lanes.specs.declared.request.EscActuatorRequest.{EscActuatorRequest}
use Rattle.esc_lanes.specs.declared.request.EscTelemetryUpdate.{EscTelemetryUpdate}
use Rattle.esc_answers.specs.Answer.{sample_bytes, delivered_bytes, idle_bytes, ack_bytes, wire_bytes, body_bytes, answer_bytes}
use Rattle.esc_records.specs.declared.record.Record.{Record}
use Rattle.esc_records.specs.declared.record.Record.TheVariants as kind
use Rattle.esc_idle.specs.declared.idle_verdict.EscIdleQualificationStatus.{EscIdleQualificationStatus}
use Rattle.esc_answers.specs.declared.answer.AckAnswer.TheVariants as ack
use Rattle.esc_answers.specs.declared.answer.Answer.{Answer}
use Rattle.esc_answers.specs.declared.answer.Answer.TheVariants as answer
use Rattle.base.specs.Maybe.{only_if}
use Rattle.booking.specs.History.{Timed, Past, seen, said_by, update_in}
use Rattle.booking.specs.Wire.{Frame, wire, frame_at, timed}
use Rattle.booking.specs.Booking.{booked, booked_to, only_the, open_request, latest_frame, newly_started, started_request}
use Rattle.booking.specs.Claims.{past_after, delivery_for}
use Rattle.booking.specs.FirstNine.{frame_for, sample_holds, Laid, FirstNine}
use Rattle.booking.proofs.WireBytes.{Good, GoodFrame, Each, Below, Heard, heard-after, wire-bytes, frame-good, timed-good, latest-frame-good, seen_below}
use Rattle.booking.proofs.DeliveredExactly.{delivered-exactly}

-- the payload of a frame's telemetry is its first nine bytes
first-nine-of : (f : List ℕ) → Good f → payload_of (telemetry_of f) ≡ take 9 f
unfolding frame_of payload_of bytes_of
first-nine-of f g = ap (take 9) (written_read f (telemetry_of f) g.bytes (read-good f g.ten g.check))

-- an answer that delivers u: 00, 02, u and an idle status
pub record Said (u : EscTelemetryUpdate) (bytes : List ℕ) : Type 0 where
  pub status : Option EscIdleQualificationStatus
  pub says : bytes ≡ 0x00 ∷ 0x02 ∷ (sample_bytes u ++ idle_bytes status)

said : (a : Answer) (u : EscTelemetryUpdate) → update_in (said_by a).delivered ≡ Some u → Said u (answer_bytes a)
unfolding answer_bytes body_bytes ack_bytes wire_bytes delivered_bytes
said answer.Done u e = absurd (none-some u e)
said (answer.Request q) u e = absurd (none-some u e)
said (answer.Decided y) u e = absurd (none-some u e)
said (answer.Ack ack.Rejected) u e = absurd (none-some u e)
said (answer.Ack ack.Accepted) u e = absurd (none-some u e)
said (answer.Ack (ack.Sample d)) u e = let same : d.update ≡ u = cc in record { status = d.status; says = rw same }
said (answer.Timeout t) u e = absurd (none-some u e)
said (answer.Wire None) u e = absurd (none-some u e)
said (answer.Wire (Some d)) u e = let same : d.update ≡ u = cc in record { status = d.status; says = rw same }
said (answer.BackAfterRetries b) u e = absurd (none-some u e)
said (answer.Idle i) u e = absurd (none-some u e)
said (answer.Report r) u e = absurd (none-some u e)
said (answer.Stored s) u e = absurd (none-some u e)
said (answer.Figures f) u e = absurd (none-some u e)

booked-bytes : (q : EscActuatorRequest) (f : Frame) → Good f.bytes → (status : Option EscIdleQualificationStatus)
    → 0x00 ∷ 0x02 ∷ (sample_bytes (booked q f) ++ idle_bytes status) ≡ sample_holds q f status
unfolding sample_bytes bytes_of
booked-bytes q f g status = rw (first-nine-of f.bytes g)

-- a sample that is booked, for either kind of record
module _ (h : Past) (r : Record) (a : Answer) (u : EscTelemetryUpdate) (said-u : Said u (answer_bytes a)) where
  framed-by : (p : Timed) → open_request h ≡ Some p → (f : Frame) → frame_for h r ≡ Some f → Good f.bytes → booked p.request f ≡ u
      → Laid h r (answer_bytes a)
  framed-by p o f x g e =
      record {
        request = p;
        opened = o;
        frame = f;
        framed = x;
        ten = g.ten;
        check = sym g.check;
        status = said-u.status;
        laid =
            said-u.says
            ∙ ap (λ (z : EscTelemetryUpdate). 0x00 ∷ 0x02 ∷ (sample_bytes z ++ idle_bytes said-u.status)) (sym e)
            ∙ booked-bytes p.request f g said-u.status;
      }

  laid_by : (ok : EscActuatorRequest → Bool) (x : Option Frame) → frame_for h r ≡ x → Each GoodFrame x → booked_to (only_the (open_request h) ok) x ≡ Some u
      → Laid h r (answer_bytes a)
  laid_by ok x e g d = go (open_request h) refl d
    where
      with-frame : (p : Timed) → open_request h ≡ Some p → (y : Option Frame) → frame_for h r ≡ y → Each GoodFrame y → booked_to (Some p.request) y ≡ Some u
          → Laid h r (answer_bytes a)
      with-frame p o None k i z = absurd (none-some u z)
      with-frame p o (Some f) k i z = let same : booked p.request f ≡ u = cc in framed-by p o f k i same

      go : (o : Option Timed) → open_request h ≡ o → booked_to (only_the o ok) x ≡ Some u → Laid h r (answer_bytes a)
      go None k z = absurd (none-some u z)
      go (Some p) k z = taken (ok p.request) z
        where
          taken : (b : Bool) → booked_to (only_if b (Some p.request)) x ≡ Some u → Laid h r (answer_bytes a)
          taken true y = with-frame p k x e g y
          taken false y = absurd (none-some u y)

module _ (h : Past) (i : Heard h) (a : Answer) (u : EscTelemetryUpdate) where
  laid-for : (r : Record) → Each Below (seen r a).wire.byte → (seen r a).requests.delivered ≡ Some u → delivery_for h r ≡ Some u → Laid h r (answer_bytes a)
  unfolding newly_started started_request
  laid-for (kind.Open c t) b e d = absurd (none-some u e)
  laid-for (kind.NextRequest now) b e d = absurd (none-some u e)
  laid-for (kind.MarkRequestQueued q now) b e d = absurd (none-some u e)
  laid-for (kind.ActuatorAck k now) b e d =
      laid_by h (kind.ActuatorAck k now) a u (said a u e) _ (latest_frame h) refl (latest-frame-good h i) d
  laid-for (kind.PollTimeout now) b e d = absurd (none-some u e)
  laid-for (kind.WireByte x now) b e d =
      laid_by h (kind.WireByte x now) a u (said a u e) _ (timed (frame_at (wire h) x) now) refl
      (timed-good (frame_at (wire h) x) now (frame-good (wire h) (wire-bytes h i) x b))
      d
  laid-for kind.WireDiscontinuity b e d = absurd (none-some u e)
  laid-for (kind.TryRecover armed now) b e d = absurd (none-some u e)
  laid-for kind.TakeBackAfterRetries b e d = absurd (none-some u e)
  laid-for kind.RefreshWireStats b e d = absurd (none-some u e)
  laid-for (kind.IdleCheck c t) b e d = absurd (none-some u e)
  laid-for (kind.IdleStatus now) b e d = absurd (none-some u e)
  laid-for kind.Report b e d = absurd (none-some u e)
  laid-for (kind.StoredSample l) b e d = absurd (none-some u e)
  laid-for (kind.Figures l) b e d = absurd (none-some u e)

pub first-nine : FirstNine
first-nine cs c r a before now read reply = go (seen r a).requests.delivered refl
  where
    go : (x : Option EscTelemetryUpdate) → (seen r a).requests.delivered ≡ x → is_some x ≡ true → Laid (past_after cs) r (answer_bytes a)
    go None e z = absurd (false≢true z)
    go (Some u) e z =
        laid-for (past_after cs) (heard-after cs before) a u r (seen_below c.bytes r a now read) e (sym (delivered-exactly cs c r a read reply) ∙ e)
