-- A delivered sample byte for byte, as it stands in the answer, over every list of calls (document 01, 'Booking rule').
use Rattle.std.specs.Prelude.{ℕ, ◌≡◌, Bool, true, ◌&&◌, List, [], ◌∷◌, ◌++◌, length, get_or, take}
use Rattle.std.specs.Prelude.{Option, None, Some, is_some}
use Rattle.base.specs.Reply.{accepted}
use Rattle.base.specs.Bytes.{are_bytes}
use Rattle.base.specs.BigEndian.{bytes_of}
use Rattle.blheli_telemetry.specs.Crc.{crc_of}
use Rattle.esc_lanes.specs.Output.{lane_of}
use Rattle.esc_lanes.specs.declared.request.EscActuatorRequest.{EscActuatorRequest}
use Rattle.esc_records.specs.Record.{read_record}
use Rattle.esc_answers.specs.Answer.{idle_bytes, answer_bytes}
use Rattle.esc_records.specs.declared.record.Record.{Record}
use Rattle.esc_records.specs.declared.record.Record.TheVariants as kind
use Rattle.esc_idle.specs.declared.idle_verdict.EscIdleQualificationStatus.{EscIdleQualificationStatus}
use Rattle.esc_answers.specs.declared.answer.Answer.{Answer}
use Rattle.booking.specs.History.{Call, Timed, Past, seen}
use Rattle.booking.specs.Wire.{Frame, wire, frame_at, timed}
use Rattle.booking.specs.Booking.{open_request, latest_frame}
use Rattle.booking.specs.Claims.{past_after, reply_after}

-- every record of a list is made of bytes. Every caller lends bytes, but a list of numbers may hold more: see `bytes-needed`
-- (proofs/FirstLive.antt)
unfoldable pub of_bytes : List Call → Bool
of_bytes [] = true
of_bytes (c ∷ cs) = are_bytes c.bytes && of_bytes cs

-- the frame that a record delivers, if it delivers: a 05 the one that it ends, a 03 the latest since the open request's 02
abbrev pub frame_for : Past → Record → Option Frame
frame_for h (kind.Open c t) = None
frame_for h (kind.NextRequest now) = None
frame_for h (kind.MarkRequestQueued q now) = None
frame_for h (kind.ActuatorAck k now) = latest_frame h
frame_for h (kind.PollTimeout now) = None
frame_for h (kind.WireByte b now) = timed (frame_at (wire h) b) now
frame_for h kind.WireDiscontinuity = None
frame_for h (kind.TryRecover armed now) = None
frame_for h kind.TakeBackAfterRetries = None
frame_for h kind.RefreshWireStats = None
frame_for h (kind.IdleCheck c t) = None
frame_for h (kind.IdleStatus now) = None
frame_for h kind.Report = None
frame_for h (kind.StoredSample l) = None
frame_for h (kind.Figures l) = None

-- the sample holds the open request's L and S, the T of the frame-end 05 and the first nine of its ten bytes. Before it stand 00 for an
-- accepted answer and 02 for a sample, after it an idle status
abbrev pub sample_holds : EscActuatorRequest → Frame → Option EscIdleQualificationStatus → List ℕ
sample_holds q f status =
    0x00
    ∷ 0x02
    ∷ lane_of q.output
    ∷ bytes_of 4 q.sequence ++ (bytes_of 8 f.at ++ (take 9 f.bytes ++ idle_bytes status))

-- the bytes of an answer to the record r after h: a request is open, the rule has a frame of ten bytes of which the tenth is the CRC of
-- the nine, and the answer is made of these two
pub record Laid (h : Past) (r : Record) (bytes : List ℕ) : Type 0 where
  pub request : Timed
  pub opened : open_request h ≡ Some request
  pub frame : Frame
  pub framed : frame_for h r ≡ Some frame
  pub ten : length frame.bytes ≡ 10
  pub check : get_or frame.bytes 9 0 ≡ crc_of (take 9 frame.bytes)
  pub status : Option EscIdleQualificationStatus
  pub laid : bytes ≡ sample_holds request.request frame status

-- each accepted call that delivers a sample, after every list of calls whose records are made of bytes
abbrev pub FirstNine : Type 0
FirstNine =
    (cs : List Call) (c : Call) (r : Record) (a : Answer)
    → of_bytes cs ≡ true
    → are_bytes c.bytes ≡ true
    → read_record c.bytes ≡ accepted r
    → reply_after cs c ≡ accepted a
    → is_some (seen r a).requests.delivered ≡ true
    → Laid (past_after cs) r (answer_bytes a)
