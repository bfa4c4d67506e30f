-- Words on what may be missing.
use Rattle.std.specs.Prelude.{Bool, true, false, Option, None, Some}

-- the newer, or else the older
abbrev pub or_else : {A : Type 0} → Option A → Option A → Option A
or_else None old = old
or_else (Some new) old = Some new

-- the older, or else the newer
abbrev pub earliest : {A : Type 0} → Option A → Option A → Option A
earliest None old = old
earliest (Some new) None = Some new
earliest (Some new) (Some old) = Some old

abbrev pub only_if : {A : Type 0} → Bool → Option A → Option A
only_if true x = x
only_if false x = None
