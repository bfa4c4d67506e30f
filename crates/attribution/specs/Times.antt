-- Times in place of the two assumptions on quiet: what can be measured.
use Rattle.std.specs.Prelude.{ℕ, ◌+◌, ◌≡◌, Bool, true, ◌||◌, [], ◌∷◌, eqb, leb, ltb, length}
use Rattle.std.specs.Prelude.{Option, None, Some, is_some}
use Rattle.base.specs.Choice.{pick}
use Rattle.booking.specs.History.{Opening, Byte, Seen, Since}
use Rattle.attribution.specs.Marks.{Log, since_in}
use Rattle.attribution.specs.Origin.{requests}
use Rattle.attribution.specs.Tests.{EntryTest, always, of_origin}
use Rattle.attribution.specs.Wiring.{while_no_fault, of_each_byte, no_noise, asked_first, one_frame}
use Rattle.attribution.specs.Clock.{latest_t, steady, grant_at}

-- a 00, a 02 answered yes, a 05, a 04 answered with a timeout, a 07 answered yes
abbrev pub stamped : Seen → Bool
stamped s = is_some s.opening || (is_some s.requests.granted || (is_some s.wire.byte || (is_some s.requests.timeout || s.requests.recovered)))

-- the latest T of these
abbrev pub clock_at : Log → ℕ
clock_at l = latest_t stamped l

abbrev pub byte_at : ℕ → Option ℕ → Option Byte → ℕ → ℕ
byte_at k origin None t = t
byte_at k None (Some b) t = t
byte_at k (Some j) (Some b) t = pick (eqb j k) b.at t

-- the T at which request k was granted, or that of the latest byte that it made an ESC send
unfoldable pub last_heard : ℕ → Log → ℕ
last_heard k [] = 0
last_heard k (e ∷ l) = byte_at k e.origin e.seen.wire.byte (grant_at k (length (requests l)) e.seen.requests.granted (last_heard k l))

abbrev pub quiet_of : Option Since → ℕ
quiet_of None = 0
quiet_of (Some s) = s.opening.config.recovery_quiet_ms

-- the quiet time of the latest 00
abbrev pub quiet_time : Log → ℕ
quiet_time l = quiet_of (since_in l)

-- a clock that does not run back, by the T of these
abbrev pub steady_clock : EntryTest
steady_clock l e = steady stamped l e

-- an answer within the quiet time: a byte comes less than the quiet time after its request was granted, or after that request's byte
-- before it
abbrev pub prompt : EntryTest
prompt l e = of_each_byte while_no_fault (of_origin (λ k. ltb e.seen.now (last_heard k l + quiet_time l))) l e

abbrev pub waits_for : Log → Option Opening → Bool
waits_for l None = true
waits_for l (Some o) = eqb (length (requests l)) 0 || leb (clock_at l + o.config.recovery_quiet_ms) o.boot

-- a reopening that waits it out: once a request was granted, a 00 comes no sooner than its own quiet time after the latest T of these
abbrev pub patient_opening : EntryTest
patient_opening l e = waits_for l e.seen.opening

pub record Timing (l : Log) : Type 0 where
  pub e1 : always (no_noise while_no_fault) l ≡ true
  pub e2 : always (asked_first while_no_fault) l ≡ true
  pub e3 : always (one_frame while_no_fault) l ≡ true
  pub clock : always steady_clock l ≡ true
  pub answer : always prompt l ≡ true
  pub reopening : always patient_opening l ≡ true
