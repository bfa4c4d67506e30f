-- The counts of `EscManagerStats`, in its order.
use Rattle.std.specs.Prelude.{ℕ, ◌+◌, ◌%◌, ◌^◌}
use Rattle.blheli_telemetry.specs.Parser.{no_counts}
use Rattle.blheli_telemetry.specs.declared.parser.ParserStats.{ParserStats}
use Rattle.esc_feedback.specs.declared.stats.EscManagerStats.{EscManagerStats}

-- one more, modulo 2^32
abbrev pub more : ℕ → ℕ
more n = (n + 1) % 2 ^ 32

abbrev pub stats_of : ℕ → ℕ → ℕ → ℕ → ℕ → ℕ → ℕ → ParserStats → EscManagerStats
stats_of queued started ack_timeouts response_timeouts mismatched unsolicited recoveries wire =
    record {
      requests_queued = queued;
      requests_started = started;
      actuator_ack_timeouts = ack_timeouts;
      telemetry_response_timeouts = response_timeouts;
      mismatched_acks = mismatched;
      unsolicited_frames = unsolicited;
      recoveries = recoveries;
      wire = wire;
    }

abbrev pub no_stats : EscManagerStats
no_stats = stats_of 0 0 0 0 0 0 0 no_counts

-- a change to each of the seven own counts
abbrev pub changed : (queued started ack_timeouts response_timeouts mismatched unsolicited recoveries : ℕ → ℕ) → EscManagerStats → EscManagerStats
changed queued started ack_timeouts response_timeouts mismatched unsolicited recoveries s =
    stats_of
    (queued s.requests_queued)
    (started s.requests_started)
    (ack_timeouts s.actuator_ack_timeouts)
    (response_timeouts s.telemetry_response_timeouts)
    (mismatched s.mismatched_acks)
    (unsolicited s.unsolicited_frames)
    (recoveries s.recoveries)
    s.wire

abbrev pub as_it_is : ℕ → ℕ
as_it_is n = n

-- the seven own counts
pub data Count : Type 0 where
  queued_requests : Count
  started_requests : Count
  ack_timeouts : Count
  response_timeouts : Count
  acks_mismatched : Count
  frames_unsolicited : Count
  recoveries : Count

-- one of the seven rises by one modulo 2^32
abbrev pub raised : Count → EscManagerStats → EscManagerStats
raised queued_requests s = changed more as_it_is as_it_is as_it_is as_it_is as_it_is as_it_is s
raised started_requests s = changed as_it_is more as_it_is as_it_is as_it_is as_it_is as_it_is s
raised ack_timeouts s = changed as_it_is as_it_is more as_it_is as_it_is as_it_is as_it_is s
raised response_timeouts s = changed as_it_is as_it_is as_it_is more as_it_is as_it_is as_it_is s
raised acks_mismatched s = changed as_it_is as_it_is as_it_is as_it_is more as_it_is as_it_is s
raised frames_unsolicited s = changed as_it_is as_it_is as_it_is as_it_is as_it_is more as_it_is s
raised recoveries s = changed as_it_is as_it_is as_it_is as_it_is as_it_is as_it_is more s

-- the manager's copy of the parser's counts renewed
abbrev pub wire_renewed : EscManagerStats → ParserStats → EscManagerStats
wire_renewed s wire =
    stats_of
    s.requests_queued
    s.requests_started
    s.actuator_ack_timeouts
    s.telemetry_response_timeouts
    s.mismatched_acks
    s.unsolicited_frames
    s.recoveries
    wire
