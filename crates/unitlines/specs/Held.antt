-- How much of an argument is held, by what the call told that copied it: all of it, or of a longer one 4,096 bytes, one more than any
-- path has, so that it names no file. None where there is no such argument.
use Rattle.std.specs.Prelude.{ℕ, Option, Some, None, Result, Ok, Err}
use Rattle.std.specs.declared.env.FillError.{FillError}
use Rattle.std.specs.declared.env.FillError.TheVariants.{NotPresent, TooLong}

abbrev pub held_of : Result ℕ FillError → Option ℕ
held_of (Ok n) = Some n
held_of (Err TooLong) = Some 4096
held_of (Err NotPresent) = None
