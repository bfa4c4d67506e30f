-- Each call of the manager, at the state that belongs to a history: its answer is the rule's, and it leaves the state of the history with the call.
use mathlib.Core.Path.{◌≡◌, refl, ◌∙◌, ap}
use mathlib.Core.List.{List, ◌∷◌}
use Rattle.std.specs.Prelude.{Option, None, Some, is_some}
use mathlib.Core.Bool.{Bool, true, false, not, ◌&&◌}
use Prim.Native.Nat.{ℕ, ◌-◌, ◌*◌, ◌^◌, min}
use lib.Dec.{eqb, leb}
use borrow.Author.Tests.{eqb-true}
use Rattle.base.specs.Choice.{pick}
use Rattle.base.proofs.Both.{and_left, and_right}
use Rattle.blheli_telemetry.specs.Parser.{push_of, reset_of}
use Rattle.blheli_telemetry.specs.declared.parser.StreamParser.{StreamParser}
use Rattle.base.specs.Due.{due}
use Rattle.esc_lanes.specs.Output.{lane_of, lane_after}
use Rattle.esc_feedback.specs.Pending.{is_open}
use Rattle.esc_feedback.specs.Turn.{period_due}
use Rattle.esc_lanes.specs.declared.output.Lane.{Lane}
use Rattle.esc_lanes.specs.declared.output.Lane.TheVariants.{Output1, Output2, Output3, Output4}
use Rattle.esc_fault.specs.Fault.{quiet_window, quiet_enough, may_recover}
use Rattle.esc_feedback.specs.Manager.{take_back}
use Rattle.esc_feedback.specs.Queueing.{request_exists, next_request, mark_queued}
use Rattle.esc_feedback.specs.Ack.{ack_on, on_ack}
use Rattle.esc_feedback.specs.Timeout.{polled_on, poll_timeout}
use Rattle.esc_feedback.specs.Wire.{framed_on, received_on, push_wire, cut_wire, refreshed}
use Rattle.esc_feedback.specs.Recovery.{recovered_manager, try_recover}
use Rattle.esc_lanes.specs.declared.request.EscActuatorRequest.{EscActuatorRequest}
use Rattle.esc_lanes.specs.declared.request.EscActuatorAck.{EscActuatorAck}
use Rattle.esc_lanes.specs.declared.request.EscTelemetryUpdate.{EscTelemetryUpdate}
use Rattle.esc_feedback.specs.declared.answer.EscAckOutcome.{EscAckOutcome}
use Rattle.esc_feedback.specs.declared.answer.EscAckOutcome.TheVariants as outcome
use Rattle.esc_feedback.specs.declared.manager.EscManager.{EscManager}
use Rattle.base.specs.Maybe.{earliest, only_if}
use Rattle.booking.specs.History.{
  Opening,
  Timed,
  Requests,
  Idle,
  no_requests,
  no_wire,
  granted_if,
  timeout_seen,
  sample_seen,
  recovered_if,
  wire_byte,
  cut_if,
  refresh_seen,
  Past,
}
use Rattle.booking.specs.Wire.{Frame, timed, wire, frame_at}
use Rattle.booking.specs.Booking.{equal, booked, booked_to, open_request, started_at, latest_frame, newly_started, started_request}
use Rattle.booking.specs.Faults.{faulted, quiet_since, retries, note, timeout_for, recovers}
use Rattle.booking.specs.Turns.{following, turn, last_queued, due_since, existing, names}
use Rattle.booking.specs.Counts.{renewed}
use Rattle.booking.proofs.Lanes.{lane-eq}
use Rattle.booking.proofs.Tallies.{wrapping, saturating}
use Rattle.booking.proofs.ManagerState.{
  pending_from,
  manager_at,
  ParserAt,
  event,
  given-at,
  parser-byte,
  faulted-is,
  heard-is,
  delivered-is,
  same-is,
  Open,
  nothing,
  waiting,
  running,
  opened,
}

-- what a 03 shows of requests, by the request that it starts and the frame that is held
abbrev pub ack_seen : EscActuatorAck → Option EscActuatorRequest → Option Frame → Requests
ack_seen k q f =
    record {
      granted = None;
      acknowledged = Some (record { request = k.request; at = k.started_at_ms });
      started = is_some q;
      delivered = booked_to q f;
      timeout = None;
      recovered = false;
    }

pub booked-none : (q : Option EscActuatorRequest) → booked_to q None ≡ None
booked-none None = refl
booked-none (Some q) = refl

pub equal-eq : (p q : EscActuatorRequest) → equal p q ≡ true → p ≡ q
equal-eq p q e =
    let a = eqb-true p.sequence q.sequence (and_left _ _ e) in
    let n = eqb-true (lane_of p.output) (lane_of q.output) (and_right (eqb p.sequence q.sequence) _ e) in
    let b = lane-eq p.output.0 q.output.0 n in
    λ j. record { sequence = a j; output = record { 0 = b j } }

following-is : (l : Lane) → lane_after l ≡ following l
following-is Output1 = refl
following-is Output2 = refl
following-is Output3 = refl
following-is Output4 = refl

only-some : (b : Bool) (p q : EscActuatorRequest) → only_if b (Some p) ≡ Some q → p ≡ q
only-some true p q e = cc
only-some false p q e = cc

module _ (o : Opening) (h : Past) (p : StreamParser) (i : ParserAt h p) where
  -- 05
  abbrev pub delivers : ℕ → ℕ → Option EscTelemetryUpdate
  delivers b now = booked_to (started_request h) (timed (frame_at (wire h) b) now)

  abbrev ByteOk : ℕ → ℕ → Idle → Type 0
  ByteOk b now d =
      push_wire (manager_at o h p) b now
      ≡ record {
        manager = manager_at o (event (sample_seen (delivers b now)) (wire_byte b now) now false d ∷ h) (push_of p b).parser;
        answer = delivers b now;
      }

  byte-none : (b now : ℕ) (d : Idle) → frame_at (wire h) b ≡ None → ByteOk b now d
  unfolding push_wire received_on turn last_queued open_request started_at latest_frame faulted quiet_since retries note wrapping saturating renewed
  byte-none b now d e = rw (given-at h p i b, e, booked-none (started_request h), heard-is (faulted h) (quiet_since h) (retries h) now)

  -- the held frame is closed by a `refl` of its own: a wrong rule is then refused by the words that differ
  byte-some : (b now : ℕ) (d : Idle) (f : List ℕ) → frame_at (wire h) b ≡ Some f → Open h → ByteOk b now d
  unfolding push_wire received_on framed_on turn last_queued open_request started_at latest_frame started_request faulted quiet_since retries note wrapping
      saturating renewed
  byte-some b now d f e (nothing k) =
      rw (
        given-at h p i b,
        e,
        k,
        (parser-byte h p i b no_requests now false d).counts,
        e,
        heard-is (faulted h) (quiet_since h)
            (retries h) now,
      )
  byte-some b now d f e (waiting q k s) =
      rw (
        given-at h p i b,
        e,
        k,
        s,
        (parser-byte h p i b no_requests now false d).counts,
        e,
        heard-is (faulted h) (quiet_since h)
            (retries h) now,
        s,
      )
      refl
  byte-some b now d f e (running q t k s) =
      rw (
        given-at h p i b,
        e,
        k,
        s,
        (parser-byte h p i b no_requests now false d).counts,
        e,
        heard-is (faulted h) (quiet_since h)
            (retries h) now,
      )
      (ap (λ (m : EscManager). record { manager = m; answer = Some (booked q.request (record { bytes = f; at = now })) }) (delivered-is _ _
      _ _ _ _ _ _ _ _))

  pub byte-ok : (b now : ℕ) (d : Idle) → ByteOk b now d
  byte-ok b now d = go (frame_at (wire h) b) refl
    where
      go : (f : Option (List ℕ)) → frame_at (wire h) b ≡ f → ByteOk b now d
      go None e = byte-none b now d e
      go (Some f) e = byte-some b now d f e (opened h)

  -- 03
  abbrev pub ack_outcome : Option EscActuatorRequest → Option Frame → EscAckOutcome
  ack_outcome None f = outcome.Rejected
  ack_outcome (Some q) None = outcome.Accepted
  ack_outcome (Some q) (Some f) = outcome.Sample (booked q f)

  abbrev AckOk : EscActuatorAck → ℕ → Idle → Type 0
  AckOk k now d =
      on_ack (manager_at o h p) k
      ≡ record {
        manager = manager_at o (event (ack_seen k (newly_started h k.request) (latest_frame h)) no_wire now false d ∷ h) p;
        answer = ack_outcome (newly_started h k.request) (latest_frame h);
      }

  ack-waiting : (k : EscActuatorAck) (now : ℕ) (d : Idle) (q : Timed) → open_request h ≡ Some q → started_at h q.request ≡ None
      → (m : Bool) → equal q.request k.request ≡ m → (f : Option Frame) → latest_frame h ≡ f → AckOk k now d
  unfolding on_ack ack_on newly_started turn last_queued open_request started_at latest_frame faulted quiet_since retries note wrapping saturating renewed
  ack-waiting k now d q e s true m None f =
      rw (e, s, same-is k.request q.request, m, f, heard-is (faulted h) (quiet_since h) (retries h) k.started_at_ms, m, s)
  ack-waiting k now d q e s true m (Some x) f =
      rw (e, s, same-is k.request q.request, m, f, heard-is (faulted h) (quiet_since h) (retries h) k.started_at_ms)
      (ap (λ (n : EscManager). record { manager = n; answer = outcome.Sample (booked q.request x) }) (delivered-is _ _ _ _ _ _ _ _ _ _))
  ack-waiting k now d q e s false m None f =
      rw (e, s, same-is k.request q.request, m, f, heard-is (faulted h) (quiet_since h) (retries h) k.started_at_ms, m, s)
  ack-waiting k now d q e s false m (Some x) f =
      rw (e, s, same-is k.request q.request, m, f, heard-is (faulted h) (quiet_since h) (retries h) k.started_at_ms, m, s)

  earliest-old : (x : Option ℕ) (t : ℕ) → earliest x (Some t) ≡ Some t
  earliest-old None t = refl
  earliest-old (Some u) t = refl

  and-false : (b : Bool) → (b && false) ≡ false
  and-false true = refl
  and-false false = refl

  ack-open : (k : EscActuatorAck) (now : ℕ) (d : Idle) → Open h → AckOk k now d
  unfolding on_ack ack_on newly_started turn last_queued open_request started_at latest_frame faulted quiet_since retries note wrapping saturating renewed
  ack-open k now d (nothing e) = rw (e, heard-is (faulted h) (quiet_since h) (retries h) k.started_at_ms)
  ack-open k now d (waiting q e s) = ack-waiting k now d q e s (equal q.request k.request) refl (latest_frame h) refl
  ack-open k now d (running q t e s) =
      rw (
        e,
        s,
        and-false (equal q.request k.request),
        heard-is (faulted h) (quiet_since h) (retries h) k.started_at_ms,
        s,
        earliest-old
            (only_if (equal q.request k.request) (Some k.started_at_ms)) t,
      )

  pub ack-ok : (k : EscActuatorAck) (now : ℕ) (d : Idle) → AckOk k now d
  ack-ok k now d = ack-open k now d (opened h)

  -- 04
  abbrev PollOk : ℕ → Idle → Type 0
  PollOk now d =
      poll_timeout (manager_at o h p) now
      ≡ record {
        manager = manager_at o (event (timeout_seen (timeout_for o h now)) no_wire now false d ∷ h) p;
        answer = timeout_for o h now;
      }

  poll-open : (now : ℕ) (d : Idle) → Open h → PollOk now d
  unfolding poll_timeout polled_on timeout_for turn last_queued open_request started_at latest_frame faulted quiet_since retries note wrapping
      saturating renewed
  poll-open now d (nothing e) = rw e
  poll-open now d (waiting q e s) = go (due q.at now o.config.actuator_ack_timeout_ms) refl
    where
      go : (z : Bool) → due q.at now o.config.actuator_ack_timeout_ms ≡ z → PollOk now d
      go true z = rw (e, s, z)
      go false z = rw (e, s, z, s)
  poll-open now d (running q t e s) = go (due t now o.config.telemetry_response_timeout_ms) refl
    where
      go : (z : Bool) → due t now o.config.telemetry_response_timeout_ms ≡ z → PollOk now d
      go true z = rw (e, s, z)
      go false z = rw (e, s, z, s)

  pub poll-ok : (now : ℕ) (d : Idle) → PollOk now d
  poll-ok now d = poll-open now d (opened h)

  -- 01 and 02
  open_is : Open h → is_open (pending_from (open_request h) (started_at h) (latest_frame h)) ≡ is_some (open_request h)
  open_is (nothing e) = rw e
  open_is (waiting q e s) = rw e
  open_is (running q t e s) = rw e

  period-is : (l : Option ℕ) (now d : ℕ) → period_due l now d ≡ due_since l now d
  period-is None now d = refl
  period-is (Some t) now d = refl

  next-if : (b : Bool) (q : EscActuatorRequest) → pick b (Some q) None ≡ only_if b (Some q)
  next-if true q = refl
  next-if false q = refl

  abbrev ready : ℕ → Bool
  ready now =
      not (faulted h)
      && (not (is_some (open_request h))
      && (due o.boot now o.config.boot_delay_ms && due_since (last_queued h) now o.config.request_period_ms))

  pub next-ok : (now : ℕ) → next_request (manager_at o h p) now ≡ existing o h now
  unfolding next_request request_exists existing
  next-ok now =
      rw (faulted-is (faulted h) (quiet_since h), open_is (opened h), period-is (last_queued h) now o.config.request_period_ms)
      (next-if (ready now) (turn h))

  existing-turn : (now : ℕ) (n : EscActuatorRequest) → existing o h now ≡ Some n → turn h ≡ n
  unfolding existing
  existing-turn now n e = only-some (ready now) (turn h) n e

  abbrev MarkOk : EscActuatorRequest → ℕ → Idle → Bool → Type 0
  MarkOk q now d y =
      mark_queued (manager_at o h p) q now
      ≡ record { manager = manager_at o (event (granted_if y q now) no_wire now false d ∷ h) p; answer = y }

  mark-some : (q : EscActuatorRequest) (now : ℕ) (d : Idle) (n : EscActuatorRequest) → existing o h now ≡ Some n
      → (z : Bool) → equal n q ≡ z → MarkOk q now d z
  unfolding mark_queued turn last_queued open_request started_at latest_frame faulted quiet_since retries note wrapping saturating renewed
  mark-some q now d n e true z =
      let t : turn h ≡ q = existing-turn now n e ∙ equal-eq n q z in
      rw (next-ok now, e, same-is q n, z, t, following-is q.output.0)
  mark-some q now d n e false z = rw (next-ok now, e, same-is q n, z)

  pub mark-ok : (q : EscActuatorRequest) (now : ℕ) (d : Idle) → MarkOk q now d (names (existing o h now) q)
  unfolding mark_queued turn last_queued open_request started_at latest_frame faulted quiet_since retries note wrapping saturating renewed
  mark-ok q now d = go (existing o h now) refl
    where
      go : (x : Option EscActuatorRequest) → existing o h now ≡ x → MarkOk q now d (names x q)
      go None e = rw (next-ok now, e)
      go (Some n) e = mark-some q now d n e (equal n q) refl

  -- 07
  quiet-is : (f : Bool) (q window now : ℕ) (armed : Bool) → quiet_enough (only_if f (Some q)) window now armed ≡ (f && (not armed && leb window (now - q)))
  quiet-is true q window now armed = refl
  quiet-is false q window now armed = refl

  recover-by : (armed : Bool) (now : ℕ)
      → try_recover (manager_at o h p) now armed
      ≡ pick (recovers o h armed now)
      (record { manager = recovered_manager (manager_at o h p); answer = true })
      (record { manager = manager_at o h p; answer = false })
  unfolding try_recover may_recover quiet_window recovers
  recover-by armed now = rw (quiet-is (faulted h) (quiet_since h) (o.config.recovery_quiet_ms * 2 ^ min (retries h) 3) now armed)

  recovers-faulted : (armed : Bool) (now : ℕ) → recovers o h armed now ≡ true → faulted h ≡ true
  unfolding recovers
  recovers-faulted armed now z = and_left (faulted h) _ z

  pub recover-ok : (calm : faulted h ≡ true → open_request h ≡ None) (armed : Bool) (now : ℕ) (d : Idle)
      → try_recover (manager_at o h p) now armed
      ≡ record {
        manager = manager_at o (event (recovered_if (recovers o h armed now)) (cut_if (recovers o h armed now)) now false d ∷ h) (pick (recovers o h
            armed now) (reset_of p) p);
        answer = recovers o h armed now;
      }
  unfolding turn last_queued open_request started_at latest_frame faulted quiet_since retries note wrapping saturating renewed
  recover-ok calm armed now d = go (recovers o h armed now) refl
    where
      go : (z : Bool) → recovers o h armed now ≡ z
          → try_recover (manager_at o h p) now armed
          ≡ record { manager = manager_at o (event (recovered_if z) (cut_if z) now false d ∷ h) (pick z (reset_of p) p); answer = z }
      go true z = recover-by armed now ∙ rw (z, calm (recovers-faulted armed now z))
      go false z = recover-by armed now ∙ rw z

  -- 06, 08 and 09
  pub cut_ok : (d : Idle) → cut_wire (manager_at o h p) ≡ manager_at o (event no_requests (cut_if true) 0 false d ∷ h) (reset_of p)
  unfolding turn last_queued open_request started_at latest_frame faulted quiet_since retries note wrapping saturating renewed
  cut_ok d = refl

  pub take-ok : (d : Idle) → (take_back (manager_at o h p)).manager ≡ manager_at o (event no_requests no_wire 0 true d ∷ h) p
  unfolding turn last_queued open_request started_at latest_frame faulted quiet_since retries note wrapping saturating renewed
  take-ok d = refl

  pub refresh-ok : (d : Idle) → refreshed (manager_at o h p) ≡ manager_at o (event no_requests refresh_seen 0 false d ∷ h) p
  unfolding turn last_queued open_request started_at latest_frame faulted quiet_since retries note wrapping saturating renewed
  refresh-ok d = rw i.counts

  -- what shows nothing of requests and wire leaves the manager
  pub same_ok : (now : ℕ) (d : Idle) → manager_at o h p ≡ manager_at o (event no_requests no_wire now false d ∷ h) p
  unfolding turn last_queued open_request started_at latest_frame faulted quiet_since retries note wrapping saturating renewed
  same_ok now d = refl
