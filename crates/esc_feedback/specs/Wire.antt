-- 05, 06 and 09: the wire (document 01, 'Manager' and 'Frame').
use Rattle.std.specs.Prelude.{ℕ, Option, Some, None}
use Rattle.blheli_telemetry.specs.Parser.{push_of, reset_of, parser_stats}
use Rattle.blheli_telemetry.specs.declared.frame.EscTelemetry.{EscTelemetry}
use Rattle.esc_lanes.specs.Request.{observation_of, update_of}
use Rattle.esc_feedback.specs.Stats.{frames_unsolicited, wire_renewed}
use Rattle.esc_feedback.specs.Pending.{open_queued}
use Rattle.esc_feedback.specs.Manager.{set_pending, set_parser, set_stats, counting, heard_by, closed_by_sample}
use Rattle.esc_feedback.specs.declared.pending.PendingRequest.{PendingRequest}
use Rattle.esc_feedback.specs.declared.pending.PendingRequest.TheVariants as pending
use Rattle.esc_feedback.specs.declared.manager.EscManager.{EscManager}
use Rattle.esc_feedback.specs.declared.answer.After.{After}
use Rattle.esc_lanes.specs.declared.request.EscTelemetryUpdate.{EscTelemetryUpdate}

-- 06: the parser is emptied, its counts are kept
abbrev pub cut_wire : EscManager → EscManager
cut_wire m = set_parser (reset_of m.parser) m

-- 09: the manager's copy of the parser's counts is renewed
abbrev pub refreshed : EscManager → EscManager
refreshed m = set_stats (wire_renewed m.stats (parser_stats m.parser)) m

-- a frame with nothing open is unsolicited; one before the acknowledgement is held, and a later one replaces it, uncounted;
-- one after it is the request's sample
unfoldable pub framed_on : EscManager → EscTelemetry → ℕ → Option PendingRequest → After (Option EscTelemetryUpdate)
framed_on m sample at None = record { manager = counting frames_unsolicited m; answer = None }
framed_on m sample at (Some (pending.Queued q t e)) =
    record { manager = set_pending (open_queued q t (Some (observation_of q sample at))) m; answer = None }
framed_on m sample at (Some (pending.Started q t)) =
    record { manager = closed_by_sample m; answer = Some (update_of q (observation_of q sample at)) }

abbrev pub frame_taken : EscManager → EscTelemetry → ℕ → After (Option EscTelemetryUpdate)
frame_taken m sample at = framed_on m sample at m.pending

-- only when the parser gives a sample is the copy of its counts renewed
unfoldable pub received_on : EscManager → ℕ → Option EscTelemetry → After (Option EscTelemetryUpdate)
received_on m at None = record { manager = m; answer = None }
received_on m at (Some sample) = frame_taken (refreshed m) sample at

-- 05: while faulted it moves the quiet start by its T; the byte goes to the parser
unfoldable pub push_wire : EscManager → ℕ → ℕ → After (Option EscTelemetryUpdate)
push_wire m byte at = received_on (set_parser (push_of m.parser byte).parser (heard_by m at)) at (push_of m.parser byte).parsed
