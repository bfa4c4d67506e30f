-- What was fed and what was answered, newest first, and what each record and its answer show. The rules read nothing else.
use Rattle.std.specs.Prelude.{ℕ, Bool, true, false, List, [], ◌∷◌}
use Rattle.std.specs.Prelude.{Option, None, Some}
use Rattle.base.specs.Reply.{Reply, accepted, refused}
use Rattle.esc_feedback.specs.declared.config.EscManagerConfig.{EscManagerConfig}
use Rattle.esc_idle.specs.declared.idle_config.EscIdleQualificationConfig.{EscIdleQualificationConfig}
use Rattle.esc_lanes.specs.declared.request.EscActuatorRequest.{EscActuatorRequest}
use Rattle.esc_lanes.specs.declared.request.EscActuatorAck.{EscActuatorAck}
use Rattle.esc_lanes.specs.declared.request.EscTelemetryUpdate.{EscTelemetryUpdate}
use Rattle.esc_feedback.specs.declared.answer.EscManagerTimeout.{EscManagerTimeout}
use Rattle.esc_records.specs.Record.{read_record}
use Rattle.esc_records.specs.declared.record.Record.{Record}
use Rattle.esc_records.specs.declared.record.Record.TheVariants as kind
use Rattle.esc_idle.specs.declared.idle_verdict.EscIdleQualificationStatus.{EscIdleQualificationStatus}
use Rattle.esc_answers.specs.declared.answer.Delivered.{Delivered}
use Rattle.esc_answers.specs.declared.answer.AckAnswer.TheVariants as ack
use Rattle.esc_answers.specs.declared.answer.Answer.{Answer}
use Rattle.esc_answers.specs.declared.answer.Answer.TheVariants as answer
use Rattle.base.specs.Maybe.{only_if}

-- a call: a record's bytes, and how much output is lent for its answer
pub record Call : Type 0 where
  pub bytes : List ℕ
  pub room : ℕ

-- a call and its reply
pub record Event : Type 0 where
  pub call : Call
  pub reply : Reply Answer

abbrev pub History : Type 0
History = List Event

-- what an accepted answer says
pub record Said : Type 0 where
  pub yes : Bool
  pub started : Bool
  pub delivered : Option Delivered
  pub timeout : Option EscManagerTimeout
  pub status : Option (Option EscIdleQualificationStatus)

abbrev said : Bool → Bool → Option Delivered → Option EscManagerTimeout → Option (Option EscIdleQualificationStatus) → Said
said y s d t i = record { yes = y; started = s; delivered = d; timeout = t; status = i }

abbrev said_nothing : Said
said_nothing = said false false None None None

abbrev said_sample : Bool → Delivered → Said
said_sample s d = said false s (Some d) None (Some d.status)

abbrev pub update_in : Option Delivered → Option EscTelemetryUpdate
update_in None = None
update_in (Some d) = Some d.update

abbrev pub said_by : Answer → Said
said_by answer.Done = said_nothing
said_by (answer.Request q) = said_nothing
said_by (answer.Decided y) = said y false None None None
said_by (answer.Ack ack.Rejected) = said_nothing
said_by (answer.Ack ack.Accepted) = said false true None None None
said_by (answer.Ack (ack.Sample d)) = said_sample true d
said_by (answer.Timeout t) = said false false None t None
said_by (answer.Wire None) = said_nothing
said_by (answer.Wire (Some d)) = said_sample false d
said_by (answer.BackAfterRetries b) = said_nothing
said_by (answer.Idle i) = said false false None None (Some i)
said_by (answer.Report r) = said_nothing
said_by (answer.Stored s) = said_nothing
said_by (answer.Figures f) = said_nothing

-- a request and a time: of its 02, or the started T of a 03
pub record Timed : Type 0 where
  pub request : EscActuatorRequest
  pub at : ℕ

pub record Byte : Type 0 where
  pub value : ℕ
  pub at : ℕ

pub record Opening : Type 0 where
  pub config : EscManagerConfig
  pub boot : ℕ

pub record Check : Type 0 where
  pub config : EscIdleQualificationConfig
  pub start : ℕ

-- what is seen of requests: a 02 answered yes, a 03 and whether it was taken, a delivered sample, a timeout, a 07 answered yes
pub record Requests : Type 0 where
  pub granted : Option Timed
  pub acknowledged : Option Timed
  pub started : Bool
  pub delivered : Option EscTelemetryUpdate
  pub timeout : Option EscManagerTimeout
  pub recovered : Bool

-- what is seen of the wire: a 05, a cut (a 06 or a 07 answered yes), a 09
pub record Wire : Type 0 where
  pub byte : Option Byte
  pub cut : Bool
  pub refreshed : Bool

-- what is seen of the idle check: a 0a, a status
pub record Idle : Type 0 where
  pub check : Option Check
  pub status : Option (Option EscIdleQualificationStatus)

-- all that an accepted record and its answer show, with the record's time (0 where it has none) and whether it is an 08
pub record Seen : Type 0 where
  pub opening : Option Opening
  pub requests : Requests
  pub wire : Wire
  pub idle : Idle
  pub now : ℕ
  pub taken : Bool

abbrev pub no_requests : Requests
no_requests = record { granted = None; acknowledged = None; started = false; delivered = None; timeout = None; recovered = false }

abbrev pub no_wire : Wire
no_wire = record { byte = None; cut = false; refreshed = false }

abbrev pub no_idle : Idle
no_idle = record { check = None; status = None }

abbrev seen_at : ℕ → Requests → Wire → Idle → Seen
seen_at t q w i = record { opening = None; requests = q; wire = w; idle = i; now = t; taken = false }

abbrev pub nothing : Seen
nothing = seen_at 0 no_requests no_wire no_idle

abbrev pub granted_if : Bool → EscActuatorRequest → ℕ → Requests
granted_if y q t =
    record {
      granted = only_if y (Some (record { request = q; at = t }));
      acknowledged = None;
      started = false;
      delivered = None;
      timeout = None;
      recovered = false;
    }

abbrev acknowledged : EscActuatorAck → Said → Requests
acknowledged k s =
    record {
      granted = None;
      acknowledged = Some (record { request = k.request; at = k.started_at_ms });
      started = s.started;
      delivered = update_in s.delivered;
      timeout = None;
      recovered = false;
    }

abbrev pub timeout_seen : Option EscManagerTimeout → Requests
timeout_seen t = record { granted = None; acknowledged = None; started = false; delivered = None; timeout = t; recovered = false }

abbrev pub sample_seen : Option EscTelemetryUpdate → Requests
sample_seen u = record { granted = None; acknowledged = None; started = false; delivered = u; timeout = None; recovered = false }

abbrev pub recovered_if : Bool → Requests
recovered_if y = record { granted = None; acknowledged = None; started = false; delivered = None; timeout = None; recovered = y }

abbrev pub wire_byte : ℕ → ℕ → Wire
wire_byte b t = record { byte = Some (record { value = b; at = t }); cut = false; refreshed = false }

abbrev pub cut_if : Bool → Wire
cut_if y = record { byte = None; cut = y; refreshed = false }

abbrev pub refresh_seen : Wire
refresh_seen = record { byte = None; cut = false; refreshed = true }

abbrev status_seen : Said → Idle
status_seen s = record { check = None; status = s.status }

abbrev pub seen_by : Record → Said → Seen
seen_by (kind.Open c t) s = record {
  opening = Some (record { config = c; boot = t });
  requests = no_requests;
  wire = no_wire;
  idle = no_idle;
  now = t;
  taken = false;
}
seen_by (kind.NextRequest t) s = nothing
seen_by (kind.MarkRequestQueued q t) s = seen_at t (granted_if s.yes q t) no_wire no_idle
seen_by (kind.ActuatorAck k t) s = seen_at t (acknowledged k s) no_wire (status_seen s)
seen_by (kind.PollTimeout t) s = seen_at t (timeout_seen s.timeout) no_wire no_idle
seen_by (kind.WireByte b t) s = seen_at t (sample_seen (update_in s.delivered)) (wire_byte b t) (status_seen s)
seen_by kind.WireDiscontinuity s = seen_at 0 no_requests (cut_if true) no_idle
seen_by (kind.TryRecover armed t) s = seen_at t (recovered_if s.yes) (cut_if s.yes) no_idle
seen_by kind.TakeBackAfterRetries s = record { opening = None; requests = no_requests; wire = no_wire; idle = no_idle; now = 0; taken = true }
seen_by kind.RefreshWireStats s = seen_at 0 no_requests refresh_seen no_idle
seen_by (kind.IdleCheck c t) s = seen_at t no_requests no_wire (record { check = Some (record { config = c; start = t }); status = None })
seen_by (kind.IdleStatus t) s = seen_at t no_requests no_wire (status_seen s)
seen_by kind.Report s = nothing
seen_by (kind.StoredSample o) s = nothing
seen_by (kind.Figures o) s = nothing

abbrev pub seen : Record → Answer → Seen
seen r a = seen_by r (said_by a)

-- what was accepted since an opening, newest first
abbrev pub Past : Type 0
Past = List Seen

-- the latest accepted 00, and what was accepted after it
pub record Since : Type 0 where
  pub opening : Opening
  pub past : Past

abbrev pub then : Option Opening → Seen → Option Since → Option Since
then (Some o) e past = Some (record { opening = o; past = [] })
then None e None = None
then None e (Some s) = Some (record { opening = s.opening; past = e ∷ s.past })

-- refused records are passed over
abbrev pub since_event : Reply Record → Reply Answer → Option Since → Option Since
since_event (refused n) a past = past
since_event (accepted r) (refused n) past = past
since_event (accepted r) (accepted a) past = then (seen r a).opening (seen r a) past

unfoldable pub since : History → Option Since
since [] = None
since (e ∷ h) = since_event (read_record e.call.bytes) e.reply (since h)
