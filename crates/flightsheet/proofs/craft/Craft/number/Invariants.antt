-- The digits so far make the number so far.
use Rattle.std.proofs.Common.{◌≡◌, Some, drop}
use Rattle.std.specs.List.{fold}
use Rattle.flightsheet.specs.Craft.{with_digit}
use Rattle.flightsheet.proofs.craft.Craft.number.Given as goal

abbrev pub invariant-loop-digit : goal.invariant-loop-digit
invariant-loop-digit l = fold with_digit (Some l.number) (drop l.digit-index l.word) ≡ fold with_digit (Some 0) l.word
