-- Demand 3 and the buyer's note (docs/CLAIMS.md), one statement for each sentence, over every list of calls fed to a unit never opened.
-- A sample's bytes in its answer are in FirstNine.antt; framing from a cut on, in FramedFromCut.antt; what a first Qualified stands for, in
-- Qualified.antt; what 0d shows, in ShownNewest.antt; whose bytes a sample was read from, in the crate attribution. A statement's theorem has
-- the same name in small letters: `delivered-exactly` proves DeliveredExactly.
--
-- To read it: (x : A) → B is "for every x of A, B"; a ≡ b is "a equals b"; x ∷ xs is a list that begins with x, [] an empty one; f x is f
-- at x; s.past is the part `past` of s; a value that may be missing is None or Some x. Histories have the newest first.
use Rattle.std.specs.Prelude.{ℕ, ◌+◌, ◌%◌, ◌^◌, ◌≡◌, List, [], ◌∷◌, ◌++◌}
use Rattle.std.specs.Prelude.{Option, None, Some, is_some}
use Rattle.base.specs.Reply.{Reply, accepted, refused}
use Rattle.blheli_telemetry.specs.Parser.{push_of}
use Rattle.esc_lanes.specs.declared.request.EscTelemetryUpdate.{EscTelemetryUpdate}
use Rattle.esc_records.specs.Record.{read_record}
use Rattle.esc_unit.specs.Unit.{call_of, output_after}
use Rattle.esc_records.specs.declared.record.Record.{Record}
use Rattle.esc_records.specs.declared.record.Record.TheVariants as kind
use Rattle.esc_answers.specs.declared.answer.UnitReport.{UnitReport}
use Rattle.esc_answers.specs.declared.answer.Answer.{Answer}
use Rattle.esc_answers.specs.declared.answer.Answer.TheVariants as answer
use Rattle.esc_unit.specs.declared.unit.Unit.{Unit}
use Rattle.booking.specs.History.{Past, Since, since, seen, Call}
use Rattle.booking.specs.Wire.{OnWire, cut, wire, frame_at, timed, parsed}
use Rattle.booking.specs.Booking.{booked_to, open_request, latest_frame, newly_started, started_request}
use Rattle.booking.specs.Counts.{one, count, queued, started, delivered, ack_timeout, response_timeout, mismatched, recovered}
use Rattle.booking.specs.Rule.{trace_of}
use Rattle.booking.specs.Run.{run}
use Rattle.booking.specs.Parser.{parser_of}

-- what was accepted since the latest accepted 00
abbrev pub past_of : Option Since → Past
past_of None = []
past_of (Some s) = s.past

abbrev pub past_after : List Call → Past
past_after cs = past_of (since (run cs).history)

-- what a unit that was fed a list says to one call more
abbrev pub reply_after : List Call → Call → Reply Answer
reply_after cs c = (call_of (run cs).unit c.bytes c.room).reply

-- every answer of every kind, refusals too: the replies to a whole list are the trace that the rules alone compute
abbrev pub Traced : Type 0
Traced = (cs : List Call) → (run cs).history ≡ trace_of [] cs

-- the booking rule. A 05 delivers exactly when it is a frame end, a request is open, and a 03 equal to that request came since its 02.
-- A 03 delivers exactly when it equals the open request, is the first such since its 02, and a frame end came since its 02; the latest
-- such frame is given with its own time. Either way the sample holds the open request's L and S, the T of the frame-end 05 and what its
-- bytes say. No other record delivers
abbrev pub delivery_for : Past → Record → Option EscTelemetryUpdate
delivery_for h (kind.Open c t) = None
delivery_for h (kind.NextRequest now) = None
delivery_for h (kind.MarkRequestQueued q now) = None
delivery_for h (kind.ActuatorAck k now) = booked_to (newly_started h k.request) (latest_frame h)
delivery_for h (kind.PollTimeout now) = None
delivery_for h (kind.WireByte b now) = booked_to (started_request h) (timed (frame_at (wire h) b) now)
delivery_for h kind.WireDiscontinuity = None
delivery_for h (kind.TryRecover armed now) = None
delivery_for h kind.TakeBackAfterRetries = None
delivery_for h kind.RefreshWireStats = None
delivery_for h (kind.IdleCheck c t) = None
delivery_for h (kind.IdleStatus now) = None
delivery_for h kind.Report = None
delivery_for h (kind.StoredSample l) = None
delivery_for h (kind.Figures l) = None

-- deliveries exactly by the booking rule
abbrev pub DeliveredExactly : Type 0
DeliveredExactly =
    (cs : List Call) (c : Call) (r : Record) (a : Answer)
    → read_record c.bytes ≡ accepted r
    → reply_after cs c ≡ accepted a
    → (seen r a).requests.delivered ≡ delivery_for (past_after cs) r

-- queued = delivered + timeouts + open
abbrev pub Balanced : Past → Type 0
Balanced h = count queued h ≡ count delivered h + (count ack_timeout h + (count response_timeout h + one (is_some (open_request h))))

abbrev pub Conserved : Type 0
Conserved = (cs : List Call) → Balanced (past_after cs)

-- the unit's parser gives a sample exactly at the frame ends
abbrev pub FrameEnds : Type 0
FrameEnds =
    (cs : List Call) (s : Since) (b : ℕ)
    → since (run cs).history ≡ Some s
    → (push_of (parser_of (run cs).unit) b).parsed ≡ parsed (frame_at (wire s.past) b)

-- two lists that hold the same bytes and cuts, in the same order, after some cut of each are framed alike there
abbrev pub FramedAlike : Type 0
FramedAlike =
    (cs ds : List Call) (s t : Since) (same before before' : List OnWire) (b : ℕ)
    → since (run cs).history ≡ Some s
    → since (run ds).history ≡ Some t
    → wire s.past ≡ same ++ cut ∷ before
    → wire t.past ≡ same ++ cut ∷ before'
    → (push_of (parser_of (run cs).unit) b).parsed ≡ (push_of (parser_of (run ds).unit) b).parsed

-- the report's queued, started (03 accepted or sample), timeout, mismatched and recovery counts equal those of the answers since the
-- opening modulo 2^32
pub record Reported (h : Past) (r : UnitReport) : Type 0 where
  pub queues : r.stats.requests_queued ≡ count queued h % 2 ^ 32
  pub starts : r.stats.requests_started ≡ count started h % 2 ^ 32
  pub ack_timeouts : r.stats.actuator_ack_timeouts ≡ count ack_timeout h % 2 ^ 32
  pub response_timeouts : r.stats.telemetry_response_timeouts ≡ count response_timeout h % 2 ^ 32
  pub mismatches : r.stats.mismatched_acks ≡ count mismatched h % 2 ^ 32
  pub recoveries : r.stats.recoveries ≡ count recovered h % 2 ^ 32

abbrev pub ReportCounts : Type 0
ReportCounts = (cs : List Call) (c : Call) (r : UnitReport) → reply_after cs c ≡ accepted (answer.Report r) → Reported (past_after cs) r

-- a refusal leaves the unit and the lent output as found
abbrev pub RefusalKeeps : Type 0
RefusalKeeps =
    (u : Unit) (bytes : List ℕ) (room n : ℕ)
    → (call_of u bytes room).reply ≡ refused n
    → ((call_of u bytes room).unit ≡ u) × ((out : List ℕ) → output_after (call_of u bytes room).reply out ≡ out)
