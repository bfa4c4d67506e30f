-- The manager: its parts, and what several calls do to them (document 01, 'Manager').
use Rattle.std.specs.Prelude.{ℕ, ◌==◌, Bool, Option, Some, None, is_some}
use Rattle.base.specs.Choice.{pick}
use Rattle.blheli_telemetry.specs.Parser.{new_parser}
use Rattle.blheli_telemetry.specs.declared.parser.StreamParser.{StreamParser}
use Rattle.esc_feedback.specs.Stats.{Count, raised, no_stats}
use Rattle.esc_feedback.specs.Turn.{first_turn}
use Rattle.esc_feedback.specs.Pending.{none_open}
use Rattle.esc_fault.specs.Fault.{no_fault, after_hearing, retries_cleared}
use Rattle.esc_feedback.specs.declared.answer.After.{After}
use Rattle.esc_feedback.specs.declared.config.EscManagerConfig.{EscManagerConfig}
use Rattle.esc_feedback.specs.declared.stats.EscManagerStats.{EscManagerStats}
use Rattle.esc_feedback.specs.declared.turn.Turn.{Turn}
use Rattle.esc_feedback.specs.declared.pending.PendingRequest.{PendingRequest}
use Rattle.esc_fault.specs.declared.fault.Fault.{Fault}
use Rattle.esc_feedback.specs.declared.manager.EscManager.{EscManager}

abbrev pub manager_of : EscManagerConfig → ℕ → Turn → Option PendingRequest → Fault → Option ℕ → StreamParser → EscManagerStats → EscManager
manager_of config boot turn pending fault back parser stats =
    record {
      config = config;
      boot_started_ms = boot;
      turn = turn;
      pending = pending;
      fault = fault;
      back_after_retries = back;
      parser = parser;
      stats = stats;
    }

-- what the manager has counted
abbrev pub manager_stats : EscManager → EscManagerStats
manager_stats m = m.stats

-- one part replaced, the others kept
abbrev pub set_turn : Turn → EscManager → EscManager
set_turn x m = manager_of m.config m.boot_started_ms x m.pending m.fault m.back_after_retries m.parser m.stats

abbrev pub set_pending : Option PendingRequest → EscManager → EscManager
set_pending x m = manager_of m.config m.boot_started_ms m.turn x m.fault m.back_after_retries m.parser m.stats

abbrev pub set_fault : Fault → EscManager → EscManager
set_fault x m = manager_of m.config m.boot_started_ms m.turn m.pending x m.back_after_retries m.parser m.stats

abbrev pub set_back : Option ℕ → EscManager → EscManager
set_back x m = manager_of m.config m.boot_started_ms m.turn m.pending m.fault x m.parser m.stats

abbrev pub set_parser : StreamParser → EscManager → EscManager
set_parser x m = manager_of m.config m.boot_started_ms m.turn m.pending m.fault m.back_after_retries x m.stats

abbrev pub set_stats : EscManagerStats → EscManager → EscManager
set_stats x m = manager_of m.config m.boot_started_ms m.turn m.pending m.fault m.back_after_retries m.parser x

abbrev pub counting : Count → EscManager → EscManager
counting k m = set_stats (raised k m.stats) m

abbrev pub new_manager : EscManagerConfig → ℕ → EscManager
new_manager config boot = manager_of config boot first_turn none_open no_fault None new_parser no_stats

-- a timeout has stopped telemetry
abbrev pub is_faulted : EscManager → Bool
is_faulted m = is_some m.fault.quiet_since_ms

-- while faulted, a 05 or 03 moves the quiet start later
abbrev pub heard_by : EscManager → ℕ → EscManager
heard_by m at = set_fault (after_hearing m.fault at) m

-- a delivered sample closes the request; it alone clears retries, and then, if they were not 0, notes them for 08
unfoldable pub closed_by_sample : EscManager → EscManager
closed_by_sample m =
    pick (m.fault.retries_without_frame == 0)
    (set_pending none_open m)
    (set_fault (retries_cleared m.fault) (set_back (Some m.fault.retries_without_frame) (set_pending none_open m)))

-- 08 hands the note out once
abbrev pub take_back : EscManager → After (Option ℕ)
take_back m = record { manager = set_back None m; answer = m.back_after_retries }
