-- So many are found among the bytes passed.
use Rattle.std.proofs.Common.{◌≡◌, take}
use Rattle.airframe.specs.Once.{times}
use Rattle.airframe.proofs.once.times.Given as goal

abbrev pub invariant-loop-b : goal.invariant-loop-b
invariant-loop-b l = l.found ≡ times l.byte (take l.b-index l.bytes)
