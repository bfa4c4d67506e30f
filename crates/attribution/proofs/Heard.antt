-- What one entry more makes of the times: of the clock, of what was heard of a request, and of the quiet start.
use mathlib.Core.Path.{◌≡◌, refl}
use mathlib.Core.List.{◌∷◌}
use Rattle.std.specs.Prelude.{Option, None, Some, is_some}
use mathlib.Core.Bool.{Bool, true, false, or-true}
use Prim.Native.Nat.{ℕ, ◌≤◌, max}
use native.Mathlib.Omega.{arith}
use lib.ListN.{length}
use lib.Dec.{eqb}
use Rattle.base.specs.Choice.{pick}
use Rattle.esc_feedback.specs.declared.answer.EscManagerTimeout.{EscManagerTimeout}
use Rattle.booking.specs.History.{Timed, Byte, Seen, Past}
use Rattle.booking.specs.Faults.{faulted, quiet_since}
use Rattle.attribution.specs.Marks.{LogEntry, Log}
use Rattle.attribution.specs.Origin.{requests, at_recovery, at_opening}
use Rattle.attribution.specs.Times.{stamped, clock_at, byte_at, last_heard}
use Rattle.attribution.proofs.Clock.{time-grows, time-now}

-- how many requests are earlier than the latest recovery or opening
abbrev pub earlier : Log → ℕ
earlier l = max (at_recovery l) (at_opening l)

pub clock-grows : (l : Log) (e : LogEntry) → clock_at l ≤ clock_at (e ∷ l)
clock-grows l e = time-grows stamped l e

pub clock-now : (l : Log) (e : LogEntry) → stamped e.seen ≡ true → e.seen.now ≤ clock_at (e ∷ l)
clock-now l e s = time-now stamped l e s

pub stamped-grant : (e : Seen) (g : Timed) → e.requests.granted ≡ Some g → stamped e ≡ true
stamped-grant e g x = rw x (or-true (is_some e.opening))

pub stamped-byte : (e : Seen) (b : Byte) → e.wire.byte ≡ Some b → stamped e ≡ true
stamped-byte e b x = rw (x, or-true (is_some e.requests.granted)) (or-true (is_some e.opening))

pub stamped-timeout : (e : Seen) (t : EscManagerTimeout) → e.requests.timeout ≡ Some t → stamped e ≡ true
stamped-timeout e t x = rw (x, or-true (is_some e.wire.byte), or-true (is_some e.requests.granted)) (or-true (is_some e.opening))

pub stamped-recovery : (e : Seen) → e.requests.recovered ≡ true → stamped e ≡ true
stamped-recovery e x =
    rw (x, or-true (is_some e.requests.timeout), or-true (is_some e.wire.byte), or-true (is_some e.requests.granted)) (or-true (is_some e.opening))

pub earlier-keeps : (l : Log) (e : LogEntry) → e.seen.requests.recovered ≡ false → e.seen.opening ≡ None → earlier (e ∷ l) ≡ earlier l
unfolding at_recovery at_opening
earlier-keeps l e r o = rw (r, o)

pub heard-keeps : (l : Log) (e : LogEntry) (k : ℕ) → e.seen.requests.granted ≡ None → e.seen.wire.byte ≡ None → last_heard k (e ∷ l) ≡ last_heard k l
unfolding last_heard
heard-keeps l e k g b = rw (b, g)

pub heard-grant : (l : Log) (e : LogEntry) (k : ℕ) (g : Timed) → e.seen.requests.granted ≡ Some g → e.seen.wire.byte ≡ None
    → last_heard k (e ∷ l) ≡ pick (eqb (length (requests l)) k) g.at (last_heard k l)
unfolding last_heard
heard-grant l e k g x b = rw (b, x)

pub heard-byte : (l : Log) (e : LogEntry) (k : ℕ) (b : Byte) → e.seen.requests.granted ≡ None → e.seen.wire.byte ≡ Some b
    → last_heard k (e ∷ l) ≡ byte_at k e.origin (Some b) (last_heard k l)
unfolding last_heard
heard-byte l e k b g x = rw (x, g)

pub fault-keeps : (h : Past) (e : Seen) → e.requests.timeout ≡ None → e.requests.recovered ≡ false → faulted (e ∷ h) ≡ faulted h
unfolding faulted
fault-keeps h e t r = rw (t, r)

-- a byte or an acknowledgement moves the quiet start later, never earlier
pub quiet-grows : (h : Past) (e : Seen) → e.requests.timeout ≡ None → quiet_since h ≤ quiet_since (e ∷ h)
unfolding quiet_since
quiet-grows h e t = go (faulted h) refl e.requests.acknowledged refl e.wire.byte refl
  where
    go : (f : Bool) → faulted h ≡ f → (a : Option Timed) → e.requests.acknowledged ≡ a → (b : Option Byte) → e.wire.byte ≡ b
        → quiet_since h ≤ quiet_since (e ∷ h)
    go f x None y None z = rw (t, y, z) (omega arith)
    go true x (Some a) y b z = rw (t, y, x) (omega arith)
    go false x (Some a) y b z = rw (t, y, x) (omega arith)
    go true x None y (Some b) z = rw (t, y, z, x) (omega arith)
    go false x None y (Some b) z = rw (t, y, z, x) (omega arith)
