-- What a stream brings out of a parser, in lent buffers: a mark and five fields for each byte, and the counts at its end.
use Rattle.std.specs.Prelude.{ℕ, ◌+◌, ◌*◌, ◌/◌, Bool, ◌&&◌, List, [], ◌∷◌, Option, Some, None, nat_le, length, set}
use Rattle.base.specs.Choice.{pick}
use Rattle.base.specs.BigEndian.{overwrite}
use Rattle.blheli_telemetry.specs.Parser.{new_parser, push_of, parser_stats}
use Rattle.blheli_telemetry.specs.Stream.{parsed_by}
use Rattle.blheli_telemetry.specs.declared.frame.EscTelemetry.{EscTelemetry}
use Rattle.blheli_telemetry.specs.declared.parser.ParserStats.{ParserStats}
use Rattle.blheli_telemetry.specs.declared.parser.StreamParser.{StreamParser}
use Rattle.c_calls.specs.Frame.{fields_of}

abbrev pub mark_of : Option EscTelemetry → ℕ
mark_of (Some t) = 1
mark_of None = 0

-- the fields of the sample that the byte at place i gave, if it did
abbrev pub filled_at : ℕ → Option EscTelemetry → List ℕ → List ℕ
filled_at i (Some t) out = overwrite (5 * i) (fields_of t) out
filled_at i None out = out

-- the marks of bytes, the first of them at place i
unfoldable pub marked : ℕ → List (Option EscTelemetry) → List ℕ → List ℕ
marked i [] out = out
marked i (p ∷ ps) out = marked (i + 1) ps (set out i (mark_of p))

unfoldable pub filled : ℕ → List (Option EscTelemetry) → List ℕ → List ℕ
filled i [] out = out
filled i (p ∷ ps) out = filled (i + 1) ps (filled_at i p out)

-- the counts of a parser that has taken the bytes
unfoldable pub stats_by : StreamParser → List ℕ → ParserStats
stats_by p [] = parser_stats p
stats_by p (b ∷ bs) = stats_by (push_of p b).parser bs

abbrev pub counts_in : ParserStats → List ℕ → List ℕ
counts_in s out = overwrite 0 (s.valid_frames ∷ s.crc_failures ∷ s.discarded_bytes ∷ []) out

-- a mark and five fields for each byte, and three counts
unfoldable pub fits : List ℕ → List ℕ → List ℕ → List ℕ → Bool
fits bytes gave fields counts =
    nat_le (length bytes) (length gave) && nat_le (length bytes) (length fields / 5) && nat_le 3 (length counts)

-- 0 or 9, and the lent buffers afterwards: all as found where one is too short
abbrev pub stream_number : List ℕ → List ℕ → List ℕ → List ℕ → ℕ
stream_number bytes gave fields counts = pick (fits bytes gave fields counts) 0 9

abbrev pub marks_after : List ℕ → List ℕ → List ℕ → List ℕ → List ℕ
marks_after bytes gave fields counts = pick (fits bytes gave fields counts) (marked 0 (parsed_by new_parser bytes) gave) gave

abbrev pub fields_after : List ℕ → List ℕ → List ℕ → List ℕ → List ℕ
fields_after bytes gave fields counts = pick (fits bytes gave fields counts) (filled 0 (parsed_by new_parser bytes) fields) fields

abbrev pub counts_after : List ℕ → List ℕ → List ℕ → List ℕ → List ℕ
counts_after bytes gave fields counts = pick (fits bytes gave fields counts) (counts_in (stats_by new_parser bytes) counts) counts
