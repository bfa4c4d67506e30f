-- The parser's framing by the bytes that it holds alone: neither stale bytes nor counts have a say in it.
use Rattle.std.specs.Prelude.{Option, Some, None, ℕ, min, List, [], ◌∷◌, ◌++◌, ltb, length, take, drop}
use Rattle.base.specs.Choice.{pick}
use Rattle.base.specs.Reply.{Reply, accepted, refused}
use Rattle.blheli_telemetry.specs.Frame.{read_frame}
use Rattle.blheli_telemetry.specs.Parser.{counted_good, counted_bad, push_of}
use Rattle.blheli_telemetry.specs.declared.frame.EscTelemetry.{EscTelemetry}
use Rattle.blheli_telemetry.specs.declared.parser.ParserStats.{ParserStats}
use Rattle.blheli_telemetry.specs.declared.parser.StreamParser.{StreamParser}

-- the bytes that a parser holds, oldest first
abbrev pub held : StreamParser → List ℕ
held p = take (min p.len 9) p.bytes

abbrev pub sample_given : Reply EscTelemetry → Option EscTelemetry
sample_given (accepted t) = Some t
sample_given (refused n) = None

abbrev pub held_on : List ℕ → Reply EscTelemetry → List ℕ
held_on f (accepted t) = []
held_on f (refused n) = drop 1 f

-- what a byte brings out of a parser that holds xs
unfoldable pub given_after : List ℕ → ℕ → Option EscTelemetry
given_after xs b = pick (ltb (length xs) 9) None (sample_given (read_frame (xs ++ b ∷ [])))

-- what the parser then holds
unfoldable pub held_after : List ℕ → ℕ → List ℕ
held_after xs b = pick (ltb (length xs) 9) (xs ++ b ∷ []) (held_on (xs ++ b ∷ []) (read_frame (xs ++ b ∷ [])))

abbrev pub tallied : Reply EscTelemetry → ParserStats → ParserStats
tallied (accepted t) s = counted_good s
tallied (refused n) s = counted_bad s

-- what becomes of its counts
unfoldable pub counted_after : List ℕ → ℕ → ParserStats → ParserStats
counted_after xs b s = pick (ltb (length xs) 9) s (tallied (read_frame (xs ++ b ∷ [])) s)

-- what a parser that holds xs gives at each byte of a stream
unfoldable pub parsed_from : List ℕ → List ℕ → List (Option EscTelemetry)
parsed_from xs [] = []
parsed_from xs (b ∷ bs) = given_after xs b ∷ parsed_from (held_after xs b) bs

-- the same of the parser's own call
unfoldable pub parsed_by : StreamParser → List ℕ → List (Option EscTelemetry)
parsed_by p [] = []
parsed_by p (b ∷ bs) = (push_of p b).parsed ∷ parsed_by (push_of p b).parser bs
