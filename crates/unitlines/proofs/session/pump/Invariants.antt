-- What is left of the chunk completes what the whole of it makes of the stream, and prints what is left to write.
use Rattle.std.proofs.Common.{◌≡◌, ℕ, List, Option, length}
use Rattle.std.specs.Io.KnownBytes.{Appends}
use Rattle.unit_text.specs.Stream.{after, printed}
use Rattle.unit_text.specs.Streams.{streamed}
use Rattle.unitlines.proofs.session.pump.Given as goal

abbrev pub invariant-loop-rest : goal.invariant-loop-rest
invariant-loop-rest g l = record {
  room : length l.out ≡ length l.initial.out;
  stream : after (streamed l.stream) l.rest ≡ after (streamed l.initial.stream) l.chunk;
  written : (held : Option (List ℕ)) → Appends (g.W.Write.contents l.to) held (printed (streamed l.stream) l.rest)
      → Appends (g.W.Write.contents l.initial.to) held (printed (streamed l.initial.stream) l.chunk);
}

abbrev pub decreases-loop-rest : goal.decreases-loop-rest
decreases-loop-rest g l = length l.rest
