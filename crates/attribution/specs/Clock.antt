-- Times in a log: the T of each request's 02, and a clock that does not fall.
use Rattle.std.specs.Prelude.{ℕ, max, Bool, not, ◌||◌, [], ◌∷◌, eqb, leb, length}
use Rattle.std.specs.Prelude.{Option, None, Some}
use Rattle.base.specs.Choice.{pick}
use Rattle.booking.specs.History.{Timed, Seen}
use Rattle.attribution.specs.Marks.{Log}
use Rattle.attribution.specs.Origin.{requests}
use Rattle.attribution.specs.Tests.{EntryTest}

-- the latest T of the records of some kinds
unfoldable pub latest_t : (Seen → Bool) → Log → ℕ
latest_t kinds [] = 0
latest_t kinds (e ∷ l) = pick (kinds e.seen) (max (latest_t kinds l) e.seen.now) (latest_t kinds l)

-- their Ts do not fall along the list
abbrev pub steady : (Seen → Bool) → EntryTest
steady kinds l e = not (kinds e.seen) || leb (latest_t kinds l) e.seen.now

abbrev pub grant_at : ℕ → ℕ → Option Timed → ℕ → ℕ
grant_at k number None t = t
grant_at k number (Some g) t = pick (eqb number k) g.at t

-- the T of the 02 of request k, once it was granted
unfoldable pub queued_at : ℕ → Log → ℕ
queued_at k [] = 0
queued_at k (e ∷ l) = grant_at k (length (requests l)) e.seen.requests.granted (queued_at k l)
