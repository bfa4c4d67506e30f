-- Each way to answer a line: a refusal leaves the unit as found, and every answer has room.
use mathlib.Core.Path.{◌≡◌, refl, sym, ap, ◌∙◌}
use mathlib.Core.Bool.{true, false}
use mathlib.Core.List.{List, [], ◌∷◌}
use Prim.Native.Nat.{ℕ}
use borrow.Author.Tests.{le-leb}
use lib.Dec.{ltb}
use lib.ListN.{length}
use Rattle.base.specs.Reply.{Reply, accepted, refused}
use Rattle.blheli_telemetry.specs.Parser.{collected}
use Rattle.esc_feedback.specs.Manager.{set_parser, heard_by}
use Rattle.esc_feedback.specs.Queueing.{next_request, mark_queued}
use Rattle.esc_feedback.specs.Ack.{on_ack}
use Rattle.esc_feedback.specs.Timeout.{poll_timeout}
use Rattle.esc_feedback.specs.Wire.{push_wire}
use Rattle.esc_lanes.specs.declared.request.EscActuatorRequest.{EscActuatorRequest}
use Rattle.esc_lanes.specs.declared.request.EscActuatorAck.{EscActuatorAck}
use Rattle.esc_lanes.specs.declared.request.EscTelemetryUpdate.{EscTelemetryUpdate}
use Rattle.esc_feedback.specs.declared.answer.EscAckOutcome.TheVariants as outcome
use Rattle.esc_feedback.specs.declared.answer.After.{After}
use Rattle.std.specs.Prelude.{Option, Some, None, is_some}
use Rattle.esc_answers.specs.declared.answer.AckAnswer.TheVariants as ack
use Rattle.esc_feedback.proofs.WireLaws.{pushed-collected}
use Rattle.esc_books.specs.Books.{booked_in}
use Rattle.esc_answers.specs.Answer.{flag_byte, answer_bytes, reply_bytes, longest_answer}
use Rattle.esc_answers.specs.declared.answer.Answer.{Answer}
use Rattle.esc_answers.specs.declared.answer.Answer.TheVariants as answer
use Rattle.esc_records.specs.declared.record.Record.{Record}
use Rattle.esc_records.specs.declared.record.Record.TheVariants as kind
use Rattle.esc_answers.proofs.AnswerLaws.{answer-at-most, decided-bytes, rejected-bytes, accepted-bytes, no-wire-bytes}
use Rattle.esc_kinds.specs.Step.{step_of}
use Rattle.esc_unit.specs.Unit.{Replied, unit_of, refusing, accepting, enter, if_room, call_on}
use Rattle.esc_kinds.specs.declared.opened.Stepped.{Stepped}
use Rattle.esc_kinds.specs.declared.opened.Opened.{Opened}
use Rattle.esc_unit.specs.declared.unit.Unit.{Unit}
use Rattle.esc_kinds.proofs.StepLaws.{step-next, step-mark, step-ack, step-poll, step-byte}
use Rattle.esc_unit.proofs.UnitLaws.{enter-opened, call_admission}
use Rattle.unit_text.specs.Session.{answer_on}
use Rattle.record_lines.specs.NextRecord.{admitted_by}
use Rattle.unit_text.specs.Answering.{Answers}

-- a line is answered by the record that is taken of it
answer-by : (u : Unit) (l : Reply (List ℕ)) → answer_on u l ≡ call_on u longest_answer (admitted_by (is_some u.opened) l)
answer-by u (refused n) = refl
answer-by u (accepted s) = call_admission u s longest_answer

-- every answer has room
roomy : (u : Unit) (k : Replied) (y : Reply Answer) → if_room u longest_answer k y ≡ k
roomy u k (refused n) = refl
roomy u k (accepted a) = rw (le-leb (length (answer_bytes a)) longest_answer (answer-at-most a))

module _ (u : Unit) (l : Reply (List ℕ)) where
  pub answers-refused : (n : ℕ) → admitted_by (is_some u.opened) l ≡ refused n → Answers u l u (n ∷ [])
  unfolding reply_bytes
  answers-refused n e =
      let by : answer_on u l ≡ refusing u n = answer-by u l ∙ ap (call_on u longest_answer) e in
      record { unit = sym (ap (λ (k : Replied). k.unit) by); bytes = sym (ap (λ (k : Replied). reply_bytes k.reply) by) }

  -- a record of any kind, whether the unit was opened or not
  pub answers-entered : (r : Record) (k : Replied) → admitted_by (is_some u.opened) l ≡ accepted r → enter u r ≡ k → Answers u l k.unit (reply_bytes k.reply)
  answers-entered r k e q =
      let by : answer_on u l ≡ k =
      answer-by u l
      ∙ ap (call_on u longest_answer) e
      ∙ ap (λ (x : Replied). if_room u longest_answer x x.reply) q
      ∙ roomy u k k.reply in
      record { unit = sym (ap (λ (x : Replied). x.unit) by); bytes = sym (ap (λ (x : Replied). reply_bytes x.reply) by) }

-- an opened unit
module _ (u : Unit) (w : Opened) (is : u.opened ≡ Some w) (l : Reply (List ℕ)) where
  pub answers-step : (r : Record) (s : Stepped) → admitted_by (is_some u.opened) l ≡ accepted r → step_of w.manager w.books r ≡ s
      → Answers u l (unit_of s.opened.manager s.opened.books) (answer_bytes s.answer)
  unfolding reply_bytes
  answers-step r s e q = answers-entered u l r (accepting s) e (enter-opened u w r is ∙ ap accepting q)

  -- the same where what is printed is known by another name
  answers-said : (r : Record) (s : Stepped) (said : List ℕ) → admitted_by (is_some u.opened) l ≡ accepted r → step_of w.manager w.books r ≡ s
      → said ≡ answer_bytes s.answer → Answers u l (unit_of s.opened.manager s.opened.books) said
  answers-said r s said e q b = let k = answers-step r s e q in record { unit = k.unit; bytes = b ∙ k.bytes }

  -- 01
  pub answers_next : (t : ℕ) → admitted_by (is_some u.opened) l ≡ accepted (kind.NextRequest t)
      → Answers u l (unit_of w.manager w.books) (answer_bytes (answer.Request (next_request w.manager t)))
  answers_next t e = answers-step _ _ e (step-next w.manager w.books t)

  -- 02
  pub answers-marked : (q : EscActuatorRequest) (t : ℕ) → admitted_by (is_some u.opened) l ≡ accepted (kind.MarkRequestQueued q t)
      → Answers u l (unit_of (mark_queued w.manager q t).manager w.books) (0x00 ∷ flag_byte (mark_queued w.manager q t).answer ∷ [])
  answers-marked q t e = answers-said _ _ _ e (step-mark w.manager w.books t q) (sym (decided-bytes _))

  -- 03: the outcome decides
  module _ (k : EscActuatorAck) (t : ℕ) (e : admitted_by (is_some u.opened) l ≡ accepted (kind.ActuatorAck k t)) where
    pub answers-rejected : (on_ack w.manager k).answer ≡ outcome.Rejected
        → Answers u l (unit_of (on_ack w.manager k).manager w.books) (0x00 ∷ flag_byte false ∷ [])
    answers-rejected o = answers-said _ _ _ e (step-ack w.manager w.books t k _ o) (sym rejected-bytes)

    pub answers-accepted : (on_ack w.manager k).answer ≡ outcome.Accepted
        → Answers u l (unit_of (on_ack w.manager k).manager w.books) (0x00 ∷ flag_byte true ∷ [])
    answers-accepted o = answers-said _ _ _ e (step-ack w.manager w.books t k _ o) (sym accepted-bytes)

    pub answers-acked : (x : EscTelemetryUpdate) → (on_ack w.manager k).answer ≡ outcome.Sample x
        → Answers u l (unit_of (on_ack w.manager k).manager (booked_in w.books x t).books)
        (answer_bytes (answer.Ack (ack.Sample (record { update = x; status = (booked_in w.books x t).status }))))
    answers-acked x o = answers-step _ _ e (step-ack w.manager w.books t k _ o)

  -- 04
  pub answers-polled : (t : ℕ) → admitted_by (is_some u.opened) l ≡ accepted (kind.PollTimeout t)
      → Answers u l (unit_of (poll_timeout w.manager t).manager w.books) (answer_bytes (answer.Timeout (poll_timeout w.manager t).answer))
  answers-polled t e = answers-step _ _ e (step-poll w.manager w.books t)

  -- 05: a sample or none
  module _ (x t : ℕ) (e : admitted_by (is_some u.opened) l ≡ accepted (kind.WireByte x t)) where
    pub answers-none : (push_wire w.manager x t).answer ≡ None
        → Answers u l (unit_of (push_wire w.manager x t).manager w.books) (0x00 ∷ flag_byte false ∷ [])
    answers-none o = answers-said _ _ _ e (step-byte w.manager w.books t x _ o) (sym no-wire-bytes)

    pub answers-heard : (y : EscTelemetryUpdate) → (push_wire w.manager x t).answer ≡ Some y
        → Answers u l (unit_of (push_wire w.manager x t).manager (booked_in w.books y t).books)
        (answer_bytes (answer.Wire (Some (record { update = y; status = (booked_in w.books y t).status }))))
    answers-heard y o = answers-step _ _ e (step-byte w.manager w.books t x _ o)

    -- a byte that the parser only collects
    pub answers-collected : ltb w.manager.parser.len 9 ≡ true
        → Answers u l (unit_of (set_parser (collected w.manager.parser x).parser (heard_by w.manager t)) w.books) (0x00 ∷ flag_byte false ∷ [])
    answers-collected few =
        let by = pushed-collected w.manager x t few in
        let none = answers-none (ap (λ (r : After (Option EscTelemetryUpdate)). r.answer) by) in
        record { unit = ap (λ (r : After (Option EscTelemetryUpdate)). unit_of r.manager w.books) (sym by) ∙ none.unit; bytes = none.bytes }
