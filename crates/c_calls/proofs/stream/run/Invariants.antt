-- The parser is run byte by byte, and what each brings out is put in its place.
use Rattle.c_calls.proofs.Running.{Running}
use Rattle.c_calls.proofs.stream.run.Given as goal

abbrev pub invariant-loop-i : goal.invariant-loop-i
invariant-loop-i l = Running l.bytes l.initial.gave l.initial.fields l.gave l.fields l.parser l.i
