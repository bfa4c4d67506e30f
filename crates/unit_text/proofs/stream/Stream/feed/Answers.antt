-- Every turn answers the next line of the chunk, in place where a byte is only collected; each kind of a flight by its own law.
use native.Mathlib.Omega.{arith}
use mathlib.Core.Path.{◌≡◌, refl, sym, ap, ◌∙◌}
use mathlib.Core.Bool.{true}
use mathlib.Core.List.{List, ◌++◌, []}
use Prim.Native.Nat.{ℕ, ◌+◌}
use lib.ListN.{length, drop}
use Rattle.std.proofs.lemmas.List.{nil_from_length}
use Rattle.base.specs.Reply.{Reply, accepted, replied}
use Rattle.esc_records.specs.declared.record.Record.{Record}
use Rattle.esc_records.specs.declared.record.Record.TheVariants as kind
use Rattle.std.specs.Prelude.{Ok, Some, Option, is_some}
use Rattle.esc_kinds.specs.declared.opened.Opened.{Opened}
use Rattle.esc_unit.specs.declared.unit.Unit.{Unit}
use Rattle.hex_lines.specs.HeldLine.{held_characters}
use Rattle.hex_lines.specs.Line.{read_line}
use Rattle.hex_lines.specs.NextLine.{first_line}
use Rattle.hex_lines.proofs.HeldLaws.{held-short}
use Rattle.record_lines.specs.NextRecord.{admitted_by, AdmittedEnded}
use Rattle.record_lines.specs.WireLine.{CollectedIfOpened}
use Rattle.unit_text.specs.Answering.{Answers, LinePut}
use Rattle.unit_text.specs.Streams.{streamed}
use Rattle.unit_text.proofs.AnswersLaws.{
  answers-refused,
  answers-entered,
  answers-step,
  answers_next,
  answers-marked,
  answers-rejected,
  answers-accepted,
  answers-acked,
  answers-polled,
  answers-none,
  answers-heard,
  answers-collected,
}
use Rattle.unit_text.proofs.Feeding.{Feeding, feeding-none, part_left, fed-stop, fed-end, feeding-open, feeding-line, feeding-record}
use Rattle.unit_text.proofs.stream.Stream.feed.Goals.{
  In-Some-collected_if_opened,
  In_default-next_admitted,
  In-Some-next_admitted,
  in-Some+in_default-collected_if_opened,
  in_default,
}
use Rattle.unit_text.proofs.stream.Stream.feed.Goals as goal

-- a byte that was read from where its line stands
module _ (c : In-Some-collected_if_opened) where
  byte : CollectedIfOpened (length (held_characters c.loop-used.line)) true c.in-Some.field-0.manager.parser (drop c.loop-used.used c.args.chunk.now)
      c.in-Some-collected_if_opened.wire
  byte = rw (c.in-Some-collected_if_opened.is, part_left _ c.loop-used.used, c.len.ensures) at c.collected_if_opened.ensures

  none : held_characters c.loop-used.line ≡ []
  none = nil_from_length _ byte.none

  taken_in_place : admitted_by (is_some c.loop-used.unit.opened)
      (read_line (held_characters c.loop-used.line ++ first_line (drop c.loop-used.used c.args.chunk.now)))
      ≡ accepted (kind.WireByte c.in-Some-collected_if_opened.wire.byte c.in-Some-collected_if_opened.wire.at_ms)
  taken_in_place = rw (c.in-Some.is, none) byte.line.admitted

-- what was only looked at is as it was
found : {unit unit' : Unit} {o : Opened} → unit.opened ≡ Some o → unit' ≡ record { opened = Some o } → unit' ≡ unit
found is e = e ∙ ap (λ (o : Option Opened). record { opened = o }) (sym is)

-- a line that goes on behind the chunk
module _ (c : In_default-next_admitted) where
  left-as-found : c.match-unit.unit ≡ c.loop-used.unit
  left-as-found = elim c.match-unit.branch [ in-Some+in_default-collected_if_opened w ↦ found w.in-Some.is w.unit-is | in_default w ↦ w.unit-is ]

-- a line that LF ends
module _ (c : In-Some-next_admitted) where
  -- the unit before the line, and the line
  abbrev was : Unit
  was = c.match-unit.unit

  was-found : was ≡ c.loop-used.unit
  was-found = elim c.match-unit.branch [ in-Some+in_default-collected_if_opened w ↦ found w.in-Some.is w.unit-is | in_default w ↦ w.unit-is ]

  abbrev heard : Reply (List ℕ)
  heard = read_line (held_characters c.loop-used.line ++ first_line (drop c.loop-used.used c.args.chunk.now))

  ended : AdmittedEnded (is_some was.opened) (held_characters c.loop-used.line) (drop c.loop-used.used c.args.chunk.now) c.in-Some-next_admitted.ended
      × (held_characters c.next_admitted.new.line ≡ [])
  ended = rw (c.in-Some-next_admitted.is, part_left _ c.loop-used.used, c.is_some-opened.ensures) at c.next_admitted.ensures

  stands : (r record' : Record) → c.in-Some-next_admitted.ended.record ≡ Ok record' → record' ≡ r → admitted_by (is_some was.opened) heard ≡ accepted r
  stands r record' e f = ended.0.admitted ∙ ap replied e ∙ ap accepted f

  -- its answer is printed, by any arm
  answered : {unit' : Unit} {said : List ℕ} {written' : ℕ} {out' : List ℕ}
      → Answers was heard unit' said → LinePut said c.loop-used.written c.loop-used.out written' out' → length out' ≡ length c.loop-used.out
      → Feeding (streamed c.args.self) c.args.chunk.now c.args.out.now unit'
      (held_characters c.next_admitted.new.line) out' (c.loop-used.used + c.in-Some-next_admitted.ended.behind) written'
  answered answers printed kept =
      rw ended.1
      (feeding-record c.loop-used.invariant (omega (arith, c.loop-used.invariant.long, c.if-out-written-ge-LONGEST_LINE.true)) ended.0 (rw was-found at answers)
      printed kept)

pub loop-used-init : goal.loop-used-init
loop-used-init c = feeding-none _ _ _ _ (held-short c.args.self.line)

pub loop-used-preserved-in-Some-collected_if_opened : goal.loop-used-preserved-in-Some-collected_if_opened
loop-used-preserved-in-Some-collected_if_opened c = let t = (goal.at.loop-used-preserved-in-Some-collected_if_opened c).In-Some-collected_if_opened in
    let l = c.loop-used in
    let h = byte t in
    rw (none t, c.collected-manager.ensures, h.few, c.heard-manager.ensures)
    (feeding-line l.invariant (omega (arith, l.invariant.long, c.if-out-written-ge-LONGEST_LINE.true)) 21
    (omega (arith, h.line.ends, h.line.long)) (omega (arith, h.line.ends)) _ _
    (answers-collected l.unit c.in-Some.field-0 c.in-Some.is _ _ _ (taken_in_place t) h.few) _ _
    c.print_flag-written.ensures c.print_flag-written.auto.out)

pub loop-used-preserved-in-Err : goal.loop-used-preserved-in-Err
loop-used-preserved-in-Err c = let t = (goal.at.loop-used-preserved-in-Err c).In-Some-next_admitted in
    answered t
    (answers-refused (was t) (heard t) _ ((ended t).0.admitted ∙ ap replied c.in-Err.is))
    c.print_refusal-written.ensures c.print_refusal-written.auto.out

pub loop-used-preserved-in-Some-NextRequest : goal.loop-used-preserved-in-Some-NextRequest
loop-used-preserved-in-Some-NextRequest c = let t = (goal.at.loop-used-preserved-in-Some-NextRequest c).In-Some-next_admitted in
    let m = c.in-Some-NextRequest in
    answered t
    (answers_next (was t) m.field-0-0 m.is-0 (heard t) _ (stands t _ _ c.in-Ok.is m.is-1))
    (rw (c.encode.ensures, c.next_request-request.ensures) at
    c.print_answer-written.ensures)
    c.print_answer-written.auto.out

pub loop-used-preserved-in-Some-MarkRequestQueued : goal.loop-used-preserved-in-Some-MarkRequestQueued
loop-used-preserved-in-Some-MarkRequestQueued c = let t = (goal.at.loop-used-preserved-in-Some-MarkRequestQueued c).In-Some-next_admitted in
    let m = c.in-Some-MarkRequestQueued in
    rw c.mark_request_queued-marked.ensures
    (answered t
    (answers-marked (was t) m.field-0-0 m.is-0 (heard t) _ _ (stands t _ _ c.in-Ok.is m.is-1))
    (rw c.mark_request_queued-marked.ensures at c.print_flag-written-in-Some-MarkRequestQueued.ensures)
    c.print_flag-written-in-Some-MarkRequestQueued.auto.out)

pub loop-used-preserved-in-Rejected : goal.loop-used-preserved-in-Rejected
loop-used-preserved-in-Rejected c = let t = (goal.at.loop-used-preserved-in-Rejected c).In-Some-next_admitted in
    let m = c.in-Some-ActuatorAck in
    rw c.on_actuator_ack-acked.ensures
    (answered t
    (answers-rejected (was t) m.field-0-0 m.is-0 (heard t) _ _ (stands t _ _ c.in-Ok.is m.is-1) (rw
    c.on_actuator_ack-acked.ensures at
    c.in-Rejected.is))
    c.print_flag-written-in-Rejected.ensures
    c.print_flag-written-in-Rejected.auto.out)

pub loop-used-preserved-in-Accepted : goal.loop-used-preserved-in-Accepted
loop-used-preserved-in-Accepted c = let t = (goal.at.loop-used-preserved-in-Accepted c).In-Some-next_admitted in
    let m = c.in-Some-ActuatorAck in
    rw c.on_actuator_ack-acked.ensures
    (answered t
    (answers-accepted (was t) m.field-0-0 m.is-0 (heard t) _ _ (stands t _ _ c.in-Ok.is m.is-1) (rw
    c.on_actuator_ack-acked.ensures at
    c.in-Accepted.is))
    c.print_flag-written-in-Accepted.ensures
    c.print_flag-written-in-Accepted.auto.out)

pub loop-used-preserved-in-Sample : goal.loop-used-preserved-in-Sample
loop-used-preserved-in-Sample c = let t = (goal.at.loop-used-preserved-in-Sample c).In-Some-next_admitted in
    let m = c.in-Some-ActuatorAck in
    rw (
      c.on_actuator_ack-acked.ensures,
      c.booked-booked.ensures,
    )
    (answered t
    (answers-acked (was t) m.field-0-0 m.is-0 (heard t) _ _ (stands t _ _ c.in-Ok.is m.is-1) _ (rw
    c.on_actuator_ack-acked.ensures at
    c.in-Sample.is))
    (rw (c.encode-in-Sample.ensures, c.booked-booked.ensures) at
    c.print_answer-written-in-Sample.ensures)
    c.print_answer-written-in-Sample.auto.out)

pub loop-used-preserved-in-Some-PollTimeout : goal.loop-used-preserved-in-Some-PollTimeout
loop-used-preserved-in-Some-PollTimeout c = let t = (goal.at.loop-used-preserved-in-Some-PollTimeout c).In-Some-next_admitted in
    let m = c.in-Some-PollTimeout in
    rw c.poll_timeout-polled.ensures
    (answered t
    (answers-polled (was t) m.field-0-0 m.is-0 (heard t) _ (stands t _ _ c.in-Ok.is m.is-1))
    (rw (c.encode-in-Some-PollTimeout.ensures, c.poll_timeout-polled.ensures) at
    c.print_answer-written-in-Some-PollTimeout.ensures)
    c.print_answer-written-in-Some-PollTimeout.auto.out)

pub loop-used-preserved-in-None : goal.loop-used-preserved-in-None
loop-used-preserved-in-None c = let t = (goal.at.loop-used-preserved-in-None c).In-Some-next_admitted in
    let m = c.in-Some-WireByte in
    rw c.push_wire_byte-received.ensures
    (answered t
    (answers-none (was t) m.field-0-0 m.is-0 (heard t) _ _ (stands t _ _ c.in-Ok.is m.is-1) (rw
    c.push_wire_byte-received.ensures at
    c.in-None.is))
    c.print_flag-written-in-None.ensures
    c.print_flag-written-in-None.auto.out)

pub loop-used-preserved-in-Some-answer : goal.loop-used-preserved-in-Some-answer
loop-used-preserved-in-Some-answer c = let t = (goal.at.loop-used-preserved-in-Some-answer c).In-Some-next_admitted in
    let m = c.in-Some-WireByte in
    rw (
      c.push_wire_byte-received.ensures,
      c.booked-booked-in-Some-answer.ensures,
    )
    (answered t
    (answers-heard (was t) m.field-0-0 m.is-0 (heard t) _ _ (stands t _ _ c.in-Ok.is m.is-1) _ (rw
    c.push_wire_byte-received.ensures at
    c.in-Some-answer.is))
    (rw (c.encode-in-Some-answer.ensures, c.booked-booked-in-Some-answer.ensures) at
    c.print_answer-written-in-Some-answer.ensures)
    c.print_answer-written-in-Some-answer.auto.out)

pub loop-used-preserved-in-Some-default : goal.loop-used-preserved-in-Some-default
loop-used-preserved-in-Some-default c = let t = (goal.at.loop-used-preserved-in-Some-default c).In-Some-next_admitted in
    let m = c.in-Some-default in
    rw c.step-stepped.ensures
    (answered t
    (answers-step (was t) m.opened m.is-0 (heard t) _ _ (stands t _ _ c.in-Ok.is refl) refl)
    (rw (c.encode-in-Some-default.ensures, c.step-stepped.ensures) at
    c.print_answer-written-in-Some-default.ensures)
    c.print_answer-written-in-Some-default.auto.out)

pub loop-used-preserved : goal.loop-used-preserved
loop-used-preserved c = let t = (goal.at.loop-used-preserved c).In-Some-next_admitted in
    let s = c.print_called-written in
    rw s.ensures.left
    (answered t (answers-entered (was t) (heard t) _ _ (stands t _ _ c.in-Ok.is refl) (sym c.step-called.ensures)) s.ensures.printed s.auto.out)

pub returns-after-loop-used : goal.returns-after-loop-used
returns-after-loop-used c = let f = fed-end c.loop-used.invariant (omega arith) in
    record { result_value = f.0; out_after = f.1 }

pub returns-else-out-written-ge-LONGEST_LINE : goal.returns-else-out-written-ge-LONGEST_LINE
returns-else-out-written-ge-LONGEST_LINE c = let f = fed-stop c.loop-used.invariant (omega (arith, c.loop-used.invariant.long)) in
    record { result_value = f.0; out_after = f.1 }

pub returns-in_default-next_admitted : goal.returns-in_default-next_admitted
returns-in_default-next_admitted c = let l = c.loop-used in
    let begun = rw (c.in_default-next_admitted.is, part_left _ l.used) at c.next_admitted.ensures in
    let f = fed-end (feeding-open l.invariant (omega (arith, l.invariant.long, c.if-out-written-ge-LONGEST_LINE.true)) _ begun.0 begun.1) (omega arith) in
    rw (left-as-found c) (record { result_value = f.0; out_after = f.1 })
