-- The parser's calls, each as the whole parser that it leaves and what it gives (document 01, 'Frame').
use Rattle.std.specs.Prelude.{Some, None, ℕ, ◌+◌, Bool, List, ◌++◌, ltb, set, take, drop, replicate}
use Rattle.base.specs.Choice.{pick}
use Rattle.base.specs.Saturated.{saturated}
use Rattle.base.specs.Reply.{Reply, accepted, refused}
use Rattle.blheli_telemetry.specs.Frame.{read_frame}
use Rattle.blheli_telemetry.specs.declared.frame.EscTelemetry.{EscTelemetry}
use Rattle.blheli_telemetry.specs.declared.parser.ParserStats.{ParserStats}
use Rattle.blheli_telemetry.specs.declared.parser.StreamParser.{StreamParser}
use Rattle.blheli_telemetry.specs.declared.parser.Pushed.{Pushed}

abbrev pub no_counts : ParserStats
no_counts = record { valid_frames = 0; crc_failures = 0; discarded_bytes = 0 }

abbrev pub new_parser : StreamParser
new_parser = record { bytes = replicate 10 0; len = 0; stats = no_counts }

abbrev pub counted_good : ParserStats → ParserStats
counted_good s =
    record {
      valid_frames = saturated s.valid_frames;
      crc_failures = s.crc_failures;
      discarded_bytes = s.discarded_bytes;
    }

abbrev pub counted_bad : ParserStats → ParserStats
counted_bad s =
    record {
      valid_frames = s.valid_frames;
      crc_failures = saturated s.crc_failures;
      discarded_bytes = saturated s.discarded_bytes;
    }

-- each of ten bytes but the first, one place down; what stands in the last place does not matter, and stays
unfoldable pub shifted_down : List ℕ → List ℕ
shifted_down b = take 9 (drop 1 b) ++ drop 9 b

-- what the parser has counted
abbrev pub parser_stats : StreamParser → ParserStats
parser_stats p = p.stats

-- whether fewer than nine are held, so that one more makes no ten
abbrev pub collecting : StreamParser → Bool
collecting p = ltb p.len 9

-- fewer than nine are held: the byte joins them
abbrev pub collected : StreamParser → ℕ → Pushed
collected p b =
    record { parser = record { bytes = set p.bytes p.len b; len = p.len + 1; stats = p.stats }; parsed = None }

-- ten bytes f are there: with a right check byte the sample is given and the parser is empty, else the oldest byte goes
abbrev pub completed : List ℕ → ParserStats → Reply EscTelemetry → Pushed
completed f s (accepted t) = record { parser = record { bytes = f; len = 0; stats = counted_good s }; parsed = Some t }
completed f s (refused n) = record { parser = record { bytes = shifted_down f; len = 9; stats = counted_bad s }; parsed = None }

-- a parser that says it holds ten or more, which no call makes, is taken to hold nine
unfoldable pub push_of : StreamParser → ℕ → Pushed
push_of p b =
    pick (ltb p.len 9)
    (collected p b)
    (completed (set p.bytes 9 b) p.stats (read_frame (set p.bytes 9 b)))

abbrev pub reset_of : StreamParser → StreamParser
reset_of p = record { bytes = p.bytes; len = 0; stats = p.stats }
