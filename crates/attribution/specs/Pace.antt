-- Four assumptions under which noise may come at any time. P is a number of milliseconds.
use Rattle.std.specs.Prelude.{ℕ, ◌+◌, ◌≡◌, Bool, true, not, ◌&&◌, ◌||◌, leb, ltb, length}
use Rattle.std.specs.Prelude.{Option, None, Some, is_some}
use Rattle.booking.specs.History.{Opening, Seen}
use Rattle.attribution.specs.Marks.{Log}
use Rattle.attribution.specs.Origin.{requests}
use Rattle.attribution.specs.Tests.{EntryTest, always, of_origin}
use Rattle.attribution.specs.Clock.{steady, queued_at}
use Rattle.attribution.specs.Cut.{a_cut}

-- asked, and done in time: a byte with origin k comes in after request k was granted, and at a T less than P above the T of its 02
abbrev pub asked_and_done_in_time : ℕ → EntryTest
asked_and_done_in_time P l e =
    not (is_some e.seen.wire.byte) || of_origin (λ k. ltb k (length (requests l)) && ltb e.seen.now (queued_at k l + P)) e.origin

-- a 00 (its T is the boot T), a 02 answered yes, a 05
abbrev pub ticks : Seen → Bool
ticks s = is_some s.opening || (is_some s.requests.granted || is_some s.wire.byte)

-- one clock: the Ts of these do not fall along the list
abbrev pub one_clock : EntryTest
one_clock l e = steady ticks l e

abbrev pub spacious : ℕ → Option Opening → Bool
spacious P None = true
spacious P (Some o) = leb P o.config.boot_delay_ms && leb P o.config.request_period_ms

-- settings: in each accepted 00 the boot delay and the period are at least P
abbrev pub settings : ℕ → EntryTest
settings P l e = spacious P e.seen.opening

pub record Pace (P : ℕ) (l : Log) : Type 0 where
  pub asked : always (asked_and_done_in_time P) l ≡ true
  pub clock : always one_clock l ≡ true
  pub set : always (settings P) l ≡ true
  pub cut : always a_cut l ≡ true
