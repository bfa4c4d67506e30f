-- Writing lists of marked calls, and reading what came of them: the arms that samples were booked to and the arms that the bytes came from.
use mathlib.Core.Path.{◌≡◌, refl, sym, subst}
use mathlib.Core.Bool.{Bool}
use mathlib.Core.List.{List, [], ◌∷◌, ◌++◌}
use Rattle.std.specs.Prelude.{Option, None, Some}
use Prim.Native.Nat.{ℕ}
use lib.Dec.{eqb}
use lib.ListN.{length, replicate}
use Rattle.base.specs.Choice.{pick}
use Rattle.esc_lanes.specs.Output.{lane_of}
use Rattle.esc_lanes.specs.declared.request.EscActuatorRequest.{EscActuatorRequest}
use Rattle.esc_lanes.specs.declared.request.EscTelemetryUpdate.{EscTelemetryUpdate}
use Rattle.booking.specs.History.{Byte}
use Rattle.booking.proofs.Calls as calls
use Rattle.attribution.specs.Marks.{Marked, MarkedHistory, Log, log_of, log_after}
use Rattle.attribution.specs.Origin.{requests}
use Rattle.attribution.specs.Tests.{always}
use Rattle.attribution.specs.Wiring.{Scope, while_no_fault, no_noise, asked_first, one_frame, quiet_recovery, quiet_opening}
use Rattle.attribution.specs.Times.{steady_clock, prompt, patient_opening}
use Rattle.attribution.specs.Cut.{a_cut}
use Rattle.attribution.specs.Cutting.{asking}
use Rattle.attribution.specs.Pace.{asked_and_done_in_time, one_clock, settings}
use Rattle.attribution.proofs.ByRule.{trace_marked, marked-by-rule}

abbrev pub unmarked : List ℕ → Marked
unmarked bytes = record { call = calls.roomy bytes; origin = None }

-- with a boot delay and a period, or none; acknowledgement timeout 20 where none is given, response timeout 100, quiet time 500
abbrev setting_of : ℕ → ℕ → ℕ → ℕ → Marked
setting_of delay period ack_timeout t = unmarked (calls.open_with delay period ack_timeout t)

abbrev pub opening_paced : ℕ → ℕ → ℕ → Marked
opening_paced delay period t = setting_of delay period 20 t

abbrev pub opening_with : ℕ → ℕ → Marked
opening_with ack_timeout t = setting_of 0 0 ack_timeout t

abbrev pub opening : ℕ → Marked
opening t = opening_with 20 t

abbrev pub queue : ℕ → ℕ → ℕ → Marked
queue s l t = unmarked (calls.queue s l t)

abbrev pub acknowledge : ℕ → ℕ → ℕ → Marked
acknowledge s l t = unmarked (calls.acknowledge s l t t)

abbrev pub poll : ℕ → Marked
poll t = unmarked (calls.poll t)

abbrev pub cut : Marked
cut = unmarked calls.cut_wire

abbrev pub recover : ℕ → Marked
recover t = unmarked (calls.recover t)

-- a request that is queued and started at once
abbrev pub ask : ℕ → ℕ → ℕ → List Marked
ask s l t = queue s l t ∷ acknowledge s l t ∷ []

-- n bytes 00 of one origin; any ten 00 are a frame
abbrev pub zeros : ℕ → Option ℕ → ℕ → List Marked
zeros n o t = replicate n (record { call = calls.roomy (calls.byte t 0x00); origin = o })

-- the lanes that samples were booked to, oldest first
abbrev booked_in : Option EscTelemetryUpdate → List ℕ
booked_in None = []
booked_in (Some u) = lane_of u.output ∷ []

abbrev pub booked : Log → List ℕ
booked [] = []
booked (e ∷ l) = booked l ++ booked_in e.seen.requests.delivered

-- the lane of the request that made an ESC send a byte
abbrev arm_of : List EscActuatorRequest → Option ℕ → Option ℕ
arm_of qs None = None
arm_of [] (Some k) = None
arm_of (q ∷ qs) (Some k) = pick (eqb (length qs) k) (Some (lane_of q.output)) (arm_of qs (Some k))

abbrev arm_in : Option Byte → Option ℕ → List (Option ℕ)
arm_in None arm = []
arm_in (Some b) arm = arm ∷ []

abbrev arms_in : List EscActuatorRequest → Log → List (Option ℕ)
arms_in qs [] = []
arms_in qs (e ∷ l) = arms_in qs l ++ arm_in e.seen.wire.byte (arm_of qs e.origin)

-- the lanes that bytes came from, oldest first
abbrev pub arms : Log → List (Option ℕ)
arms l = arms_in (requests l) l

-- the assumptions, by name
pub data Name : Type 0 where
  e1 e2 e3 e4 e5 clock answer reopening cutting asked_in_time spacing : Name

pub record Named : Type 0 where
  pub name : Name
  pub holds : Bool

abbrev pub five : Scope → Log → List Named
five scope l =
    record { name = e1; holds = always (no_noise scope) l }
    ∷ record { name = e2; holds = always (asked_first scope) l }
    ∷ record { name = e3; holds = always (one_frame scope) l }
    ∷ record { name = e4; holds = always (quiet_recovery scope) l }
    ∷ record { name = e5; holds = always (quiet_opening scope) l }
    ∷ []

abbrev pub failing : List Named → List Name
failing [] = []
failing (n ∷ ns) = pick n.holds (failing ns) (n.name ∷ failing ns)

-- which assumptions of the three forms fail
abbrev pub wiring_fails : Log → List Name
wiring_fails l = failing (five while_no_fault l)

abbrev pub timing_fails : Log → List Name
timing_fails l =
    failing
    (record { name = e1; holds = always (no_noise while_no_fault) l }
    ∷ record { name = e2; holds = always (asked_first while_no_fault) l }
    ∷ record { name = e3; holds = always (one_frame while_no_fault) l }
    ∷ record { name = clock; holds = always steady_clock l }
    ∷ record { name = answer; holds = always prompt l }
    ∷ record { name = reopening; holds = always patient_opening l }
    ∷ [])

abbrev pub cutting_fails : Log → List Name
cutting_fails l = failing (five asking l ++ record { name = cutting; holds = always a_cut l } ∷ [])

-- and those of the form with noise
abbrev pub pace_fails : ℕ → Log → List Name
pace_fails P l =
    failing
    (record { name = asked_in_time; holds = always (asked_and_done_in_time P) l }
    ∷ record { name = clock; holds = always one_clock l }
    ∷ record { name = spacing; holds = always (settings P) l }
    ∷ record { name = cutting; holds = always a_cut l }
    ∷ [])

-- what fails of a list in each of the three forms, where its samples went and where its bytes came from
pub record Row (l : Log) (wiring timing cutting : List Name) (to : List ℕ) (from : List (Option ℕ)) : Type 0 where
  pub wires : wiring_fails l ≡ wiring
  pub times : timing_fails l ≡ timing
  pub cuts : cutting_fails l ≡ cutting
  pub lanes : booked l ≡ to
  pub sent : arms l ≡ from

abbrev pub rule_log : List Marked → Log
rule_log ms = log_of (trace_marked [] ms)

-- what the rule alone computes is what comes of the unit
pub by-rule : (P : Log → Type 0) (ms : List Marked) → P (rule_log ms) → P (log_after ms)
by-rule P ms = subst (λ (h : MarkedHistory). P (log_of h)) (sym (marked-by-rule ms))

pub row : (ms : List Marked)
    → Row (log_after ms) (wiring_fails (rule_log ms)) (timing_fails (rule_log ms)) (cutting_fails (rule_log ms)) (booked (rule_log ms)) (arms (rule_log ms))
row ms =
    by-rule (λ (l : Log). Row l (wiring_fails (rule_log ms)) (timing_fails (rule_log ms)) (cutting_fails (rule_log ms))
    (booked (rule_log ms)) (arms (rule_log ms))) ms
    (record { wires = refl; times = refl; cuts = refl; lanes = refl; sent = refl })
