-- Each record, at the unit that belongs to a history: the answer is the rule's, and the unit left is that of the history with the record.
use mathlib.Core.Path.{◌≡◌, refl, sym, ◌∙◌, ap}
use mathlib.Core.List.{[], ◌∷◌}
use Rattle.std.specs.Prelude.{Option, None, Some, is_some}
use Rattle.std.proofs.lemmas.Option.{none-some}
use mathlib.Core.Bool.{Bool, true, false, ◌||◌, true≢false, false≢true}
use Prim.Native.Nat.{ℕ}
use Rattle.base.specs.Choice.{pick}
use Rattle.blheli_telemetry.specs.Parser.{push_of, reset_of, new_parser}
use Rattle.blheli_telemetry.specs.declared.parser.StreamParser.{StreamParser}
use Rattle.esc_feedback.specs.Manager.{new_manager}
use Rattle.esc_lanes.specs.declared.request.EscActuatorRequest.{EscActuatorRequest}
use Rattle.esc_lanes.specs.declared.request.EscActuatorAck.{EscActuatorAck}
use Rattle.esc_lanes.specs.declared.request.EscTelemetryUpdate.{EscTelemetryUpdate}
use Rattle.esc_feedback.specs.declared.answer.EscManagerTimeout.{EscManagerTimeout}
use Rattle.esc_feedback.specs.declared.manager.EscManager.{EscManager}
use Rattle.esc_books.specs.Books.{no_books, booked_in, idle_status}
use Rattle.esc_kinds.specs.Step.{stepped, acked_on, wire_stepped, recovered_on, report_of, step_of}
use Rattle.esc_unit.specs.Unit.{unit_of}
use Rattle.esc_records.specs.Admission.{opens}
use Rattle.esc_records.specs.declared.record.Record.{Record}
use Rattle.esc_records.specs.declared.record.Record.TheVariants as kind
use Rattle.esc_idle.specs.declared.idle_verdict.EscIdleQualificationStatus.{EscIdleQualificationStatus}
use Rattle.esc_answers.specs.declared.answer.AckAnswer.TheVariants as ack
use Rattle.esc_answers.specs.declared.answer.Answer.{Answer}
use Rattle.esc_answers.specs.declared.answer.Answer.TheVariants as answer
use Rattle.esc_books.specs.declared.books.Books.{Books}
use Rattle.esc_unit.specs.declared.unit.Unit.{Unit}
use Rattle.esc_kinds.specs.declared.opened.Stepped.{Stepped}
use Rattle.base.specs.Maybe.{or_else}
use Rattle.booking.specs.History.{
  Opening,
  Timed,
  Wire,
  Idle,
  Seen,
  no_requests,
  no_wire,
  no_idle,
  granted_if,
  timeout_seen,
  sample_seen,
  recovered_if,
  wire_byte,
  cut_if,
  seen,
  Past,
}
use Rattle.booking.specs.Wire.{Frame}
use Rattle.booking.specs.Booking.{booked, booked_to, open_request, latest_frame, newly_started}
use Rattle.booking.specs.Faults.{faulted, quiet_since, timeout_for, recovers}
use Rattle.booking.specs.Turns.{existing, names}
use Rattle.booking.specs.IdleRule.{judged}
use Rattle.booking.specs.Counts.{queued, started, ack_timeout, response_timeout, mismatched, unsolicited, recovered, frame_ended, wrong, renewed, report_for}
use Rattle.booking.specs.Rule.{ack_answer, wire_answer_of, answer_to}
use Rattle.booking.proofs.Tallies.{wrapping-is, saturating-is}
use Rattle.booking.proofs.ManagerState.{manager_at, faulted-is, ParserAt, event, parser-byte, parser-same, parser-cut, parser-new, manager-new}
use Rattle.booking.proofs.ManagerSteps.{
  ack_seen,
  delivers,
  ack_outcome,
  byte-ok,
  ack-ok,
  poll-ok,
  next-ok,
  mark-ok,
  recover-ok,
  cut_ok,
  take-ok,
  refresh-ok,
  same_ok,
}
use Rattle.booking.proofs.BooksState.{BooksAt, books-new, took, asked-status, same, dropped, checked, stored-at, figure-at}

-- while faulted no request is open
abbrev pub Calm : Past → Type 0
Calm h = faulted h ≡ true → open_request h ≡ None

-- the unit that belongs to an opening and what came after it
pub record UnitAt (o : Opening) (h : Past) (u : Unit) : Type 0 where
  pub p : StreamParser
  pub b : Books
  pub parser : ParserAt h p
  pub calm : Calm h
  pub books : BooksAt h b
  pub state : u ≡ unit_of (manager_at o h p) b

pub record StepOk (o : Opening) (h : Past) (r : Record) (a : Answer) (s : Stepped) : Type 0 where
  pub answers : s.answer ≡ a
  pub unit : UnitAt o (seen r s.answer ∷ h) (unit_of s.opened.manager s.opened.books)

calm-by : (d t r f : Bool) (x : Option Timed) → pick t true (pick r false f) ≡ true → (f ≡ true → x ≡ None) → pick (d || t) None (or_else None x) ≡ None
calm-by true t r f x k g = refl
calm-by false true r f x k g = refl
calm-by false false true f x k g = absurd (false≢true k)
calm-by false false false f x k g = g k

calm-keeps : (h : Past) (e : Seen) → e.requests.granted ≡ None → Calm h → Calm (e ∷ h)
unfolding faulted open_request
calm-keeps h e g calm k = rw g (calm-by (is_some e.requests.delivered) (is_some e.requests.timeout) e.requests.recovered (faulted h) (open_request h) k calm)

existing-unfaulted : (o : Opening) (h : Past) (now : ℕ) (q : EscActuatorRequest) → existing o h now ≡ Some q → faulted h ≡ false
unfolding existing
existing-unfaulted o h now q e = go (faulted h) refl
  where
    go : (f : Bool) → faulted h ≡ f → f ≡ false
    go true f = absurd (none-some q (rw f at e))
    go false f = refl

pub unit-new : (o : Opening) → UnitAt o [] (unit_of (new_manager o.config o.boot) no_books)
unfolding faulted open_request
unit-new o =
    record {
      p = new_parser;
      b = no_books;
      parser = parser-new;
      calm = λ k. refl;
      books = books-new;
      state = ap (λ (m : EscManager). unit_of m no_books) (manager-new o);
    }

module _ (o : Opening) (h : Past) (p : StreamParser) (b : Books) (parser : ParserAt h p) (calm : Calm h) (books : BooksAt h b) where
  abbrev m : EscManager
  m = manager_at o h p

  -- a step that leaves these
  leaves : (e : Seen) (n : EscManager) (p' : StreamParser) (b' : Books) → e.requests.granted ≡ None
      → n ≡ manager_at o (e ∷ h) p' → ParserAt (e ∷ h) p' → BooksAt (e ∷ h) b' → UnitAt o (e ∷ h) (unit_of n b')
  leaves e n p' b' g s i k =
      record { p = p'; b = b'; parser = i; calm = calm-keeps h e g calm; books = k; state = ap (λ (z : EscManager). unit_of z b') s }

  -- 01, 0c, 0d and 0e show nothing
  looked : (r : Record) (a a' : Answer) → a ≡ a' → seen r a ≡ event no_requests no_wire 0 false no_idle
      → StepOk o h r a' (stepped m b a)
  looked r a a' k e =
      record {
        answers = k;
        unit =
            rw e
            (leaves _ m p b refl (same_ok o h p parser 0 no_idle) (parser-same h p no_requests false 0 false no_idle parser)
            (same h b books _ refl refl refl refl));
      }

  report-is : report_of m ≡ report_for h
  unfolding report_for
  report-is =
      rw (
        faulted-is (faulted h) (quiet_since h),
        wrapping-is queued h,
        wrapping-is started h,
        wrapping-is ack_timeout h,
        wrapping-is response_timeout h,
        wrapping-is mismatched h,
        wrapping-is unsolicited h,
        wrapping-is recovered h,
        saturating-is frame_ended (renewed h),
        saturating-is wrong (renewed h),
      )

  -- 02
  mark-calm : (q : EscActuatorRequest) (now : ℕ) (x : Option EscActuatorRequest) → existing o h now ≡ x
      → Calm (event (granted_if (names x q) q now) no_wire now false no_idle ∷ h)
  unfolding faulted open_request
  mark-calm q now None e k = calm k
  mark-calm q now (Some n) e k = absurd (true≢false (sym k ∙ existing-unfaulted o h now n e))

  marked : (q : EscActuatorRequest) (now : ℕ) → StepOk o h (kind.MarkRequestQueued q now) (answer.Decided (names (existing o h now) q)) (step_of m b
      (kind.MarkRequestQueued q now))
  unfolding step_of
  marked q now =
      rw (mark-ok o h p parser q now no_idle)
      (record {
        answers = refl;
        unit =
            record {
              p = p;
              b = b;
              parser = parser-same h p _ false now false no_idle parser;
              calm = mark-calm q now (existing o h now) refl;
              books = same h b books _ refl refl refl refl;
              state = refl;
            };
      })

  -- 03
  abbrev says : ℕ → EscTelemetryUpdate → Option EscIdleQualificationStatus
  says now u = (booked_in b u now).status

  abbrev idle_after : Option EscTelemetryUpdate → (EscTelemetryUpdate → Option EscIdleQualificationStatus) → Idle
  idle_after None f = no_idle
  idle_after (Some u) f = record { check = None; status = Some (f u) }

  abbrev acknowledging : EscActuatorAck → ℕ → Option EscActuatorRequest → Option Frame → Seen
  acknowledging k now q f = event (ack_seen k q f) no_wire now false (idle_after (booked_to q f) (says now))

  acked-on : (k : EscActuatorAck) (now : ℕ) (q : Option EscActuatorRequest) (f : Option Frame)
      → StepOk o h (kind.ActuatorAck k now)
      (answer.Ack (ack_answer q f (λ u. judged h (Some u) now)))
      (acked_on (manager_at o (acknowledging k now q f ∷ h) p) b now (ack_outcome o h p parser q f))
  acked-on k now None f =
      record {
        answers = refl;
        unit = leaves (acknowledging k now None f) _ p b refl refl (parser-same h p _ false now false _ parser) (same h b books _ refl refl refl refl);
      }
  acked-on k now (Some q) None =
      record {
        answers = refl;
        unit = leaves (acknowledging k now (Some q) None) _ p b refl refl (parser-same h p _ false now false _ parser) (same h b books _ refl refl refl refl);
      }
  acked-on k now (Some q) (Some f) =
      let u = booked q f in
      let kept = took h b books u now (acknowledging k now (Some q) (Some f)) refl refl refl refl refl in
      record {
        answers = ap (λ (s : Option EscIdleQualificationStatus). answer.Ack (ack.Sample (record { update = u; status = s }))) kept.status;
        unit = leaves (acknowledging k now (Some q) (Some f)) _ p (booked_in b u now).books refl refl (parser-same h p _ false now false _ parser)
            kept.books;
      }

  acked : (k : EscActuatorAck) (now : ℕ) → StepOk o h (kind.ActuatorAck k now) (answer_to o h (kind.ActuatorAck k now)) (step_of m b (kind.ActuatorAck k now))
  unfolding step_of
  acked k now =
      rw (ack-ok o h p parser k now (idle_after (booked_to (newly_started h k.request) (latest_frame h)) (says now)))
      (acked-on k now (newly_started h k.request) (latest_frame h))

  -- 04
  polled-on : (now : ℕ) (t : Option EscManagerTimeout)
      → StepOk o h (kind.PollTimeout now) (answer.Timeout t)
      (stepped (manager_at o (event (timeout_seen t) no_wire now false no_idle ∷ h) p) b (answer.Timeout t))
  polled-on now t =
      record { answers = refl; unit = leaves _ _ p b refl refl (parser-same h p _ false now false _ parser) (same h b books _ refl refl refl refl) }

  polled : (now : ℕ) → StepOk o h (kind.PollTimeout now) (answer.Timeout (timeout_for o h now)) (step_of m b (kind.PollTimeout now))
  unfolding step_of
  polled now = rw (poll-ok o h p parser now no_idle) (polled-on now (timeout_for o h now))

  -- 05
  abbrev wire_event : ℕ → ℕ → Option EscTelemetryUpdate → Seen
  wire_event x now u = event (sample_seen u) (wire_byte x now) now false (idle_after u (says now))

  received-on : (x now : ℕ) (u : Option EscTelemetryUpdate)
      → StepOk o h (kind.WireByte x now)
      (answer.Wire (wire_answer_of u (λ v. judged h (Some v) now)))
      (wire_stepped (manager_at o (wire_event x now u ∷ h) (push_of p x).parser) b now u)
  received-on x now None =
      record {
        answers = refl;
        unit = leaves (wire_event x now None) _ (push_of p x).parser b refl refl (parser-byte h p parser x _ now false _)
            (same h b books _ refl refl refl refl);
      }
  received-on x now (Some u) =
      let kept = took h b books u now (wire_event x now (Some u)) refl refl refl refl refl in
      record {
        answers = ap (λ (s : Option EscIdleQualificationStatus). answer.Wire (Some (record { update = u; status = s }))) kept.status;
        unit = leaves (wire_event x now (Some u)) _ (push_of p x).parser (booked_in b u now).books refl refl (parser-byte h p parser x _ now false _)
            kept.books;
      }

  received : (x now : ℕ) → StepOk o h (kind.WireByte x now) (answer_to o h (kind.WireByte x now)) (step_of m b (kind.WireByte x now))
  unfolding step_of
  received x now = rw (byte-ok o h p parser x now (idle_after (delivers o h p parser x now) (says now))) (received-on x now (delivers o h p parser x now))

  -- 07
  recovered-on : (armed : Bool) (now : ℕ) (y : Bool)
      → StepOk o h (kind.TryRecover armed now) (answer.Decided y)
      (recovered_on (manager_at o (event (recovered_if y) (cut_if y) now false no_idle ∷ h) (pick y (reset_of p) p)) b y)
  recovered-on armed now true =
      record { answers = refl; unit = leaves _ _ (reset_of p) _ refl refl (parser-cut h p _ now false _ parser) (dropped h b books _ refl refl refl refl) }
  recovered-on armed now false =
      record { answers = refl; unit = leaves _ _ p b refl refl (parser-same h p _ false now false _ parser) (same h b books _ refl refl refl refl) }

  recovering : (armed : Bool) (now : ℕ) → StepOk o h (kind.TryRecover armed now) (answer.Decided (recovers o h armed now)) (step_of m b
      (kind.TryRecover armed now))
  unfolding step_of
  recovering armed now = rw (recover-ok o h p parser calm armed now no_idle) (recovered-on armed now (recovers o h armed now))

  -- 06, 08 and 09
  quietly : (r : Record) (n : EscManager) (p' : StreamParser) (w : Wire) (k : Bool) → ParserAt (event no_requests w 0 k no_idle ∷ h) p'
      → n ≡ manager_at o (event no_requests w 0 k no_idle ∷ h) p'
      → (a : Answer) → seen r a ≡ event no_requests w 0 k no_idle
      → (a' : Answer) → a ≡ a' → StepOk o h r a' (stepped n b a)
  quietly r n p' w k i s a e a' z =
      record { answers = z; unit = rw e (leaves _ n p' b refl s i (same h b books _ refl refl refl refl)) }

  -- each kind but 00
  pub step_ok : (r : Record) → opens r ≡ false → StepOk o h r (answer_to o h r) (step_of m b r)
  unfolding step_of
  step_ok (kind.Open c t) f = absurd (true≢false f)
  step_ok (kind.NextRequest now) f = looked (kind.NextRequest now) _ _ (ap answer.Request (next-ok o h p parser now)) refl
  step_ok (kind.MarkRequestQueued q now) f = marked q now
  step_ok (kind.ActuatorAck k now) f = acked k now
  step_ok (kind.PollTimeout now) f = polled now
  step_ok (kind.WireByte x now) f = received x now
  step_ok kind.WireDiscontinuity f = quietly kind.WireDiscontinuity _ (reset_of p) _ false (parser-cut h p _ 0 false _ parser) (cut_ok o h p parser _)
      answer.Done refl _ refl
  step_ok (kind.TryRecover armed now) f = recovering armed now
  step_ok kind.TakeBackAfterRetries f = quietly kind.TakeBackAfterRetries _ p _ true (parser-same h p _ false 0 true _ parser) (take-ok o h p parser
      _) _ refl _ refl
  step_ok kind.RefreshWireStats f = quietly kind.RefreshWireStats _ p _ false (parser-same h p _ true 0 false _ parser) (refresh-ok o h p parser _)
      answer.Done refl _ refl
  step_ok (kind.IdleCheck c t) f =
      let d : Idle = record { check = Some (record { config = c; start = t }); status = None } in
      record {
        answers = refl;
        unit = leaves _ m p _ refl (same_ok o h p parser t d) (parser-same h p _ false t false d parser) (checked h b books _ (record {
          config = c;
          start = t;
        }) refl refl refl);
      }
  step_ok (kind.IdleStatus now) f =
      let d : Idle = record { check = None; status = Some (idle_status b now).status } in
      let kept = asked-status h b books now (event no_requests no_wire now false d) refl refl refl refl refl in
      record {
        answers = ap answer.Idle kept.status;
        unit = leaves _ m p _ refl (same_ok o h p parser now d) (parser-same h p _ false now false d parser) kept.books;
      }
  step_ok kind.Report f = looked kind.Report _ _ (ap answer.Report report-is) refl
  step_ok (kind.StoredSample l) f = looked (kind.StoredSample l) _ _ (ap answer.Stored (stored-at h b books l)) refl
  step_ok (kind.Figures l) f = looked (kind.Figures l) _ _ (ap answer.Figures (figure-at h b books l)) refl
