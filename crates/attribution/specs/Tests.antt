-- A test that each entry of a log passes.
use Rattle.std.specs.Prelude.{ℕ, Bool, true, ◌&&◌, [], ◌∷◌}
use Rattle.std.specs.Prelude.{Option, None, Some}
use Rattle.attribution.specs.Marks.{LogEntry, Log}

-- a test on an entry, given the log before it
abbrev pub EntryTest : Type 0
EntryTest = Log → LogEntry → Bool

unfoldable pub always : EntryTest → Log → Bool
always t [] = true
always t (e ∷ l) = t l e && always t l

-- noise passes
abbrev pub of_origin : (ℕ → Bool) → Option ℕ → Bool
of_origin test None = true
of_origin test (Some k) = test k
