-- The lines of the chunk so far are answered; what is left of the chunk falls.
use Prim.Native.Nat.{◌-◌}
use lib.ListN.{length}
use Rattle.hex_lines.specs.HeldLine.{held_characters}
use Rattle.unit_text.specs.Streams.{streamed}
use Rattle.unit_text.proofs.Feeding.{Feeding}
use Rattle.unit_text.proofs.stream.Stream.feed.Given as goal

abbrev pub invariant-loop-used : goal.invariant-loop-used
invariant-loop-used l = Feeding (streamed l.fn.self) l.chunk l.fn.out l.unit (held_characters l.line) l.out l.used l.written

abbrev pub decreases-loop-used : goal.decreases-loop-used
decreases-loop-used l = length l.chunk - l.used
