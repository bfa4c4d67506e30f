-- The manager's state as a function of the history: all of it but the bytes in the parser's array.
use mathlib.Core.Path.{◌≡◌, refl, sym, ◌∙◌}
use mathlib.Core.List.{List, [], ◌∷◌}
use Rattle.std.specs.Prelude.{Option, None, Some, is_some}
use mathlib.Core.Bool.{Bool, true, false, ◌&&◌}
use Prim.Native.Nat.{ℕ, max}
use lib.Dec.{eqb}
use lib.ListN.{length}
use borrow.Author.Tests.{eqb-true, eqb-false, eq-eqb, ne_eqb}
use Rattle.base.specs.Choice.{pick}
use Rattle.blheli_telemetry.specs.Parser.{push_of, reset_of, new_parser}
use Rattle.blheli_telemetry.specs.Stream.{held}
use Rattle.blheli_telemetry.specs.declared.parser.ParserStats.{ParserStats}
use Rattle.blheli_telemetry.specs.declared.parser.StreamParser.{StreamParser}
use Rattle.blheli_telemetry.proofs.StreamLaws.{given-by-held, held-by-held, counted-by-held, keeps-ten}
use Rattle.esc_lanes.specs.Output.{lane_of}
use Rattle.esc_lanes.specs.Request.{same_request}
use Rattle.esc_feedback.specs.Stats.{stats_of}
use Rattle.esc_feedback.specs.Pending.{none_open}
use Rattle.esc_fault.specs.Fault.{fault_of, after_hearing}
use Rattle.esc_feedback.specs.Manager.{manager_of, new_manager, closed_by_sample}
use Rattle.esc_feedback.specs.declared.config.EscManagerConfig.{EscManagerConfig}
use Rattle.esc_lanes.specs.declared.request.EscActuatorRequest.{EscActuatorRequest}
use Rattle.esc_lanes.specs.declared.request.EscTelemetryObservation.{EscTelemetryObservation}
use Rattle.esc_fault.specs.declared.fault.Fault.{Fault}
use Rattle.base.specs.Maybe.{only_if}
use Rattle.esc_feedback.specs.declared.stats.EscManagerStats.{EscManagerStats}
use Rattle.esc_feedback.specs.declared.turn.Turn.{Turn}
use Rattle.esc_feedback.specs.declared.pending.PendingRequest.{PendingRequest}
use Rattle.esc_feedback.specs.declared.pending.PendingRequest.TheVariants as pending
use Rattle.esc_feedback.specs.declared.manager.EscManager.{EscManager}
use Rattle.booking.specs.History.{Opening, Timed, Requests, Wire, Idle, Seen, wire_byte, cut_if, Past}
use Rattle.booking.specs.Wire.{Frame, timed, wire, frame_at, parsed}
use Rattle.booking.specs.Booking.{equal, booked, open_request, started_at, latest_frame}
use Rattle.booking.specs.Faults.{faulted, quiet_since, retries, note}
use Rattle.booking.specs.Turns.{turn, last_queued}
use Rattle.booking.specs.Counts.{queued, started, ack_timeout, response_timeout, mismatched, unsolicited, recovered, frame_ended, wrong, renewed}
use Rattle.booking.proofs.Framing.{Holds, holds-nothing, after-cut, byted}
use Rattle.booking.proofs.Tallies.{wrapping, saturating}

abbrev pub turn_at : Past → Turn
turn_at h = record { output = (turn h).output; sequence = (turn h).sequence; last_request_ms = last_queued h }

abbrev pub early_of : EscActuatorRequest → Option Frame → Option EscTelemetryObservation
early_of q None = None
early_of q (Some f) = Some (booked q f).observation

abbrev pub pending_on : Timed → Option ℕ → Option Frame → PendingRequest
pending_on q None f = pending.Queued q.request q.at (early_of q.request f)
pending_on q (Some t) f = pending.Started q.request t

abbrev pub pending_from : Option Timed → (EscActuatorRequest → Option ℕ) → Option Frame → Option PendingRequest
pending_from None s f = None
pending_from (Some q) s f = Some (pending_on q (s q.request) f)

abbrev pub pending_at : Past → Option PendingRequest
pending_at h = pending_from (open_request h) (started_at h) (latest_frame h)

-- the quiet start is there while faulted
abbrev pub fault_at : Bool → ℕ → ℕ → Fault
fault_at f q r = fault_of (only_if f (Some q)) r

abbrev pub wire_stats : Past → ParserStats
wire_stats h =
    record {
      valid_frames = saturating frame_ended h;
      crc_failures = saturating wrong h;
      discarded_bytes = saturating wrong h;
    }

abbrev pub stats_at : Past → EscManagerStats
stats_at h =
    stats_of
    (wrapping queued h)
    (wrapping started h)
    (wrapping ack_timeout h)
    (wrapping response_timeout h)
    (wrapping mismatched h)
    (wrapping unsolicited h)
    (wrapping recovered h)
    (wire_stats (renewed h))

abbrev pub manager_at : Opening → Past → StreamParser → EscManager
manager_at o h p =
    manager_of
    o.config
    o.boot
    (turn_at h)
    (pending_at h)
    (fault_at (faulted h) (quiet_since h) (retries h))
    (note h)
    p
    (stats_at h)

-- what is known of the parser
pub record ParserAt (h : Past) (p : StreamParser) : Type 0 where
  pub ten : length p.bytes ≡ 10
  pub holds : Holds (wire h) (held p)
  pub counts : p.stats ≡ wire_stats h

-- an event that opens nothing
abbrev pub event : Requests → Wire → ℕ → Bool → Idle → Seen
event r w t k i = record { opening = None; requests = r; wire = w; idle = i; now = t; taken = k }

-- a 05 at the parser
is-timed : (f : Option (List ℕ)) (t : ℕ) → is_some (timed f t) ≡ is_some f
is-timed None t = refl
is-timed (Some f) t = refl

module _ (h : Past) (p : StreamParser) (i : ParserAt h p) (b : ℕ) where
  pub given-at : (push_of p b).parsed ≡ parsed (frame_at (wire h) b)
  given-at = given-by-held p b i.ten ∙ (byted (wire h) (held p) b i.holds).gives

  pub parser-byte : (r : Requests) (t : ℕ) (k : Bool) (d : Idle) → ParserAt (event r (wire_byte b t) t k d ∷ h) (push_of p b).parser
  unfolding wire saturating
  parser-byte r t k d =
      let s = byted (wire h) (held p) b i.holds in
      record {
        ten = keeps-ten p b i.ten;
        holds = rw (held-by-held p b i.ten) s.holds;
        counts = counted-by-held p b i.ten ∙ s.counts p.stats ∙ rw (i.counts, is-timed (frame_at (wire h) b) t);
      }

-- what leaves the wire alone leaves the parser alone
pub parser-same : (h : Past) (p : StreamParser) (r : Requests) (w : Bool) (t : ℕ) (k : Bool) (d : Idle)
    → ParserAt h p → ParserAt (event r (record { byte = None; cut = false; refreshed = w }) t k d ∷ h) p
unfolding wire saturating
parser-same h p r w t k d i = record { ten = i.ten; holds = i.holds; counts = i.counts }

pub parser-cut : (h : Past) (p : StreamParser) (r : Requests) (t : ℕ) (k : Bool) (d : Idle)
    → ParserAt h p → ParserAt (event r (cut_if true) t k d ∷ h) (reset_of p)
unfolding wire saturating
parser-cut h p r t k d i = record { ten = i.ten; holds = after-cut (wire h); counts = i.counts }

pub parser-new : ParserAt [] new_parser
unfolding wire saturating
parser-new = record { ten = refl; holds = holds-nothing; counts = refl }

-- a new manager is that of an empty history
pub manager-new : (o : Opening) → new_manager o.config o.boot ≡ manager_at o [] new_parser
unfolding turn last_queued open_request faulted quiet_since retries note wrapping saturating renewed
manager-new o = refl

-- small facts about the parts
pub faulted-is : (f : Bool) (q : ℕ) → is_some (only_if f (Some q)) ≡ f
faulted-is true q = refl
faulted-is false q = refl

pub heard-is : (f : Bool) (q r t : ℕ) → after_hearing (fault_at f q r) t ≡ fault_at f (pick f (max q t) q) r
heard-is true q r t = refl
heard-is false q r t = refl

pub delivered-is : (c : EscManagerConfig) (b : ℕ) (t : Turn) (l : Option PendingRequest) (f : Bool) (q r : ℕ) (n : Option ℕ)
    (p : StreamParser) (s : EscManagerStats)
    → closed_by_sample (manager_of c b t l (fault_at f q r) n p s)
    ≡ manager_of c b t none_open (fault_at f q 0) (pick (eqb r 0) n (Some r)) p s
unfolding closed_by_sample
delivered-is c b t l f q r n p s = go (eqb r 0) refl
  where
    go : (z : Bool) → eqb r 0 ≡ z
        → closed_by_sample (manager_of c b t l (fault_at f q r) n p s)
        ≡ manager_of c b t none_open (fault_at f q 0) (pick z n (Some r)) p s
    go true e = rw (eqb-true r 0 e)
    go false e = rw e

eqb-sym : (m n : ℕ) → eqb m n ≡ eqb n m
eqb-sym m n = go (eqb n m) refl
  where
    go : (z : Bool) → eqb n m ≡ z → eqb m n ≡ z
    go true e = eq-eqb m n (sym (eqb-true n m e))
    go false e = ne_eqb m n (λ k. eqb-false n m e (sym k))

pub same-is : (q p : EscActuatorRequest) → same_request q p ≡ equal p q
unfolding same_request
same-is q p = rw (eqb-sym q.sequence p.sequence) (go (eqb p.sequence q.sequence))
  where
    go : (z : Bool) → pick z (eqb (lane_of q.output) (lane_of p.output)) false ≡ (z && eqb (lane_of p.output) (lane_of q.output))
    go true = eqb-sym (lane_of q.output) (lane_of p.output)
    go false = refl

-- what is open
pub data Open (h : Past) : Type 0 where
  nothing : open_request h ≡ None → Open h
  waiting : (q : Timed) → open_request h ≡ Some q → started_at h q.request ≡ None → Open h
  running : (q : Timed) (t : ℕ) → open_request h ≡ Some q → started_at h q.request ≡ Some t → Open h

pub opened : (h : Past) → Open h
opened h = go (open_request h) refl
  where
    with-start : (q : Timed) → open_request h ≡ Some q → (s : Option ℕ) → started_at h q.request ≡ s → Open h
    with-start q e None k = waiting q e k
    with-start q e (Some t) k = running q t e k

    go : (x : Option Timed) → open_request h ≡ x → Open h
    go None e = nothing e
    go (Some q) e = with-start q e (started_at h q.request) refl
