-- Each answer has a form, by computation over its bytes: those of a delivery, 25, 28 and 29 long, are a delivery's alone.
use Rattle.std.proofs.Common.{◌≡◌, Bool, true, false, leb, Option, Some, None, [], ◌∷◌, ◌++◌, refl}
use Rattle.base.specs.BigEndian.{bytes_of}
use Rattle.blheli_telemetry.specs.Frame.{payload_of}
use Rattle.esc_lanes.specs.Output.{lane_number}
use Rattle.esc_lanes.specs.declared.output.Lane.{Lane}
use Rattle.esc_lanes.specs.declared.output.Lane.TheVariants.{Output1, Output2, Output3, Output4}
use Rattle.esc_lanes.specs.declared.request.EscActuatorRequest.{EscActuatorRequest}
use Rattle.esc_lanes.specs.declared.request.EscTelemetryUpdate.{EscTelemetryUpdate}
use Rattle.esc_feedback.specs.declared.answer.EscManagerTimeout.TheVariants as timeout
use Rattle.esc_idle.specs.declared.idle_verdict.EscIdleQualificationFailure.TheVariants as failure
use Rattle.esc_idle.specs.declared.idle_verdict.EscIdleQualificationStatus.{EscIdleQualificationStatus}
use Rattle.esc_idle.specs.declared.idle_verdict.EscIdleQualificationStatus.TheVariants as idle
use Rattle.esc_answers.specs.Answer.{flag_byte, request_bytes, sample_bytes, failure_bytes, idle_bytes, delivered_bytes, next_bytes, ack_bytes}
use Rattle.esc_answers.specs.Answer.{timeout_bytes, wire_bytes, back_bytes, report_bytes, stored_bytes, figure_bytes, body_bytes, answer_bytes}
use Rattle.esc_answers.specs.declared.answer.AckAnswer.TheVariants as ack
use Rattle.esc_answers.specs.declared.answer.UnitReport.{UnitReport}
use Rattle.esc_answers.specs.declared.answer.Answer.TheVariants as answer
use Rattle.answer_lines.specs.Form.{has_form, fits_one}
use Rattle.answer_lines.specs.Told.{told_by}
use Rattle.answer_lines.specs.Claims.{FourCounts, DeliveredByLength, DeliveriesByLength}

-- a lane's byte and a flag's are within their bounds
lane-least : (l : Lane) → leb 0 (lane_number l) ≡ true
lane-least Output1 = refl
lane-least Output2 = refl
lane-least Output3 = refl
lane-least Output4 = refl

lane-most : (l : Lane) → leb (lane_number l) 3 ≡ true
lane-most Output1 = refl
lane-most Output2 = refl
lane-most Output3 = refl
lane-most Output4 = refl

flag-least : (b : Bool) → leb 0 (flag_byte b) ≡ true
flag-least true = refl
flag-least false = refl

flag-most : (b : Bool) → leb (flag_byte b) 1 ≡ true
flag-most true = refl
flag-most false = refl

module _ (u : EscTelemetryUpdate) where
  -- a delivered sample and an idle status
  delivery : (s : Option EscIdleQualificationStatus) → FourCounts s
      → DeliveredByLength (0x00 ∷ 0x02 ∷ (sample_bytes u ++ idle_bytes s)) (Some (record { update = u; status = s }))
  unfolding sample_bytes idle_bytes failure_bytes payload_of bytes_of told_by has_form fits_one
  delivery None k = record { by-length = refl; behind = refl; tells = rw (lane-least u.output.0, lane-most u.output.0) }
  delivery (Some idle.Pending) k = record { by-length = refl; behind = refl; tells = rw (lane-least u.output.0, lane-most u.output.0) }
  delivery (Some idle.Qualified) k = record { by-length = refl; behind = refl; tells = rw (lane-least u.output.0, lane-most u.output.0) }
  delivery (Some (idle.Failed failure.InvalidConfig)) k =
      record { by-length = refl; behind = refl; tells = rw (lane-least u.output.0, lane-most u.output.0) }
  delivery (Some (idle.Failed (failure.Overspeed o erpm))) k =
      record { by-length = refl; behind = refl; tells = rw (lane-least u.output.0, lane-most u.output.0, lane-least o.0, lane-most o.0) }
  delivery (Some (idle.Failed (failure.Timeout counts))) k =
      record { by-length = refl; behind = refl; tells = rw (lane-least u.output.0, lane-most u.output.0) }

  stored : DeliveredByLength (0x00 ∷ 0x01 ∷ sample_bytes u) None
  unfolding sample_bytes payload_of bytes_of told_by has_form fits_one
  stored = record { by-length = refl; behind = tt; tells = rw (lane-least u.output.0, lane-most u.output.0) }

-- an idle status alone
status : (s : Option EscIdleQualificationStatus) → FourCounts s → DeliveredByLength (0x00 ∷ idle_bytes s) None
unfolding idle_bytes failure_bytes bytes_of told_by has_form fits_one
status None k = record { by-length = refl; behind = tt; tells = refl }
status (Some idle.Pending) k = record { by-length = refl; behind = tt; tells = refl }
status (Some idle.Qualified) k = record { by-length = refl; behind = tt; tells = refl }
status (Some (idle.Failed failure.InvalidConfig)) k = record { by-length = refl; behind = tt; tells = refl }
status (Some (idle.Failed (failure.Overspeed o erpm))) k = record { by-length = refl; behind = tt; tells = rw (lane-least o.0, lane-most o.0) }
status (Some (idle.Failed (failure.Timeout counts))) k = record { by-length = refl; behind = tt; tells = refl }

-- a request, asked for or timed out
asked : (q : EscActuatorRequest) → DeliveredByLength (0x00 ∷ 0x01 ∷ request_bytes q) None
unfolding request_bytes bytes_of told_by has_form fits_one
asked q = record { by-length = refl; behind = tt; tells = rw (lane-least q.output.0, lane-most q.output.0) }

overdue : (q : EscActuatorRequest) → DeliveredByLength (0x00 ∷ 0x02 ∷ request_bytes q) None
unfolding request_bytes bytes_of told_by has_form fits_one
overdue q = record { by-length = refl; behind = tt; tells = rw (lane-least q.output.0, lane-most q.output.0) }

reported : (r : UnitReport) → DeliveredByLength (0x00 ∷ report_bytes r) None
unfolding report_bytes bytes_of told_by has_form fits_one
reported r =
    record {
      by-length = refl;
      behind = tt;
      tells = rw (flag-least r.faulted, flag-most r.faulted, flag-least r.retrying, flag-most r.retrying);
    }

decided : (b : Bool) → DeliveredByLength (0x00 ∷ flag_byte b ∷ []) None
unfolding told_by has_form fits_one
decided true = record { by-length = refl; behind = tt; tells = refl }
decided false = record { by-length = refl; behind = tt; tells = refl }

pub delivered-by-length : DeliveriesByLength
unfolding answer_bytes body_bytes next_bytes ack_bytes timeout_bytes wire_bytes delivered_bytes back_bytes stored_bytes figure_bytes bytes_of told_by
    has_form fits_one
delivered-by-length answer.Done k = record { by-length = refl; behind = tt; tells = refl }
delivered-by-length (answer.Request None) k = decided false
delivered-by-length (answer.Request (Some q)) k = asked q
delivered-by-length (answer.Decided b) k = decided b
delivered-by-length (answer.Ack ack.Rejected) k = decided false
delivered-by-length (answer.Ack ack.Accepted) k = decided true
delivered-by-length (answer.Ack (ack.Sample d)) k = delivery d.update d.status k
delivered-by-length (answer.Timeout None) k = decided false
delivered-by-length (answer.Timeout (Some (timeout.ActuatorAck q))) k = asked q
delivered-by-length (answer.Timeout (Some (timeout.TelemetryResponse q))) k = overdue q
delivered-by-length (answer.Wire None) k = decided false
delivered-by-length (answer.Wire (Some d)) k = delivery d.update d.status k
delivered-by-length (answer.BackAfterRetries None) k = decided false
delivered-by-length (answer.BackAfterRetries (Some n)) k = record { by-length = refl; behind = tt; tells = refl }
delivered-by-length (answer.Idle i) k = status i k
delivered-by-length (answer.Report r) k = reported r
delivered-by-length (answer.Stored None) k = decided false
delivered-by-length (answer.Stored (Some u)) k = stored u
delivered-by-length (answer.Figures f) k = record { by-length = refl; behind = tt; tells = refl }
