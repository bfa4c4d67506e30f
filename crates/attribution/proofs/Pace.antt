-- The unit's period and boot delay: when a request is granted, every earlier one is P old. So a byte that comes in time is noise or of the
-- latest request.
use mathlib.Core.Path.{◌≡◌, refl}
use mathlib.Core.List.{◌∷◌}
use Rattle.std.specs.Prelude.{Option, None, Some, is_some}
use mathlib.Core.Bool.{true, ◌&&◌, or-true}
use Prim.Native.Nat.{ℕ, suc, ◌+◌, ◌-◌, ◌%◌, ◌^◌, ◌≤◌, ◌<◌}
use native.Mathlib.Omega.{arith}
use lib.ListN.{length}
use lib.Dec.{leb, ltb}
use borrow.Author.Tests.{leb-true, ltb-true, eq-eqb}
use Rattle.base.proofs.ByCases.{below_or_not}
use Rattle.base.specs.Due.{due}
use Rattle.booking.specs.History.{Opening, Byte, Since}
use Rattle.booking.specs.Turns.{last_queued}
use Rattle.attribution.specs.Marks.{LogEntry, Log}
use Rattle.attribution.specs.Origin.{requests}
use Rattle.attribution.specs.Since.{taken_since, each}
use Rattle.attribution.specs.Tests.{of_origin}
use Rattle.attribution.specs.Clock.{latest_t, queued_at}
use Rattle.attribution.specs.Cut.{a_cut}
use Rattle.attribution.specs.Pace.{asked_and_done_in_time, ticks, one_clock, spacious, settings, Pace}
use Rattle.attribution.specs.NeverAnotherArm.{no_other}
use Rattle.base.proofs.Both.{and_left, and_right}
use Rattle.attribution.proofs.Always.{now, before}
use Rattle.attribution.proofs.Clock.{time-grows}
use Rattle.attribution.proofs.Steps.{Free}
use Rattle.attribution.proofs.Since.{requests-keep, since-same}

-- Due modulo 2^64 is plain subtraction on a clock that did not fall
due-after : (t now d : ℕ) → t < 2 ^ 64 → t ≤ now → due t now d ≡ true → t + d ≤ now
unfolding due
due-after t now d w c e =
    let k : d ≤ (now + (2 ^ 64 - t)) % 2 ^ 64 = leb-true d _ e in
    omega arith

-- the T of the latest 02 answered yes since the opening, or else the boot T
abbrev pub from : Option ℕ → ℕ → ℕ
from None boot = boot
from (Some t) boot = t

abbrev pub from_of : Option Since → ℕ
from_of None = 0
from_of (Some s) = from (last_queued s.past) s.opening.boot

abbrev pub opened_in : Option Since → Option Opening
opened_in None = None
opened_in (Some s) = Some s.opening

-- what is assumed, and that the Ts fit
pub record Given (P : ℕ) (l : Log) : Type 0 where
  pub pace : Pace P l
  pub wide : latest_t ticks l < 2 ^ 64

pub record Paced (P : ℕ) (l : Log) (s : Option Since) : Type 0 where
  pub set : spacious P (opened_in s) ≡ true
  pub passed : from_of s ≤ latest_t ticks l
  -- no request was granted after that
  pub queued : (k : ℕ) → queued_at k l ≤ from_of s
  -- all but the latest are P old
  pub old : (k : ℕ) → suc k < length (requests l) → queued_at k l + P ≤ latest_t ticks l
  -- each byte since the latest 02 is noise or of its request
  pub own : (k : ℕ) → length (requests l) ≡ suc k → each (no_other k) (taken_since l) ≡ true

module _ (P : ℕ) (l : Log) (e : LogEntry) (a : Given P (e ∷ l)) where
  pub given-before : Given P l
  given-before =
      record {
        pace =
            record {
              asked = before (asked_and_done_in_time P) l e a.pace.asked;
              clock = before one_clock l e a.pace.clock;
              set = before (settings P) l e a.pace.set;
              cut = before a_cut l e a.pace.cut;
            };
        wide = omega (arith, a.wide, time-grows ticks l e);
      }

  pub clock-holds : ticks e.seen ≡ true → latest_t ticks l ≤ e.seen.now
  clock-holds t = leb-true _ _ (rw t at (now one_clock l e a.pace.clock))

  module _ (s : Since) (i : Paced P l (Some s)) where
    abbrev pub next : Option Since
    next = Some (record { opening = s.opening; past = e.seen ∷ s.past })

    -- no grant
    pub same-paced : e.seen.requests.granted ≡ None → ((k : ℕ) → length (requests l) ≡ suc k → each (no_other k) (taken_since (e ∷ l)) ≡ true)
        → Paced P (e ∷ l) next
    unfolding last_queued queued_at
    same-paced g own =
        record {
          set = i.set;
          passed = rw start (omega (arith, i.passed, time-grows ticks l e));
          queued = λ k. rw (start, at k) (i.queued k);
          old = λ k n. rw (at k) (omega (arith, i.old k (rw (requests-keep l e g) at n), time-grows ticks l e));
          own = λ k n. own k (rw (requests-keep l e g) at n);
        }
      where
        start : from_of next ≡ from_of (Some s)
        start = rw g

        at : (k : ℕ) → queued_at k (e ∷ l) ≡ queued_at k l
        at k = rw g

    -- neither grant nor byte
    pub quiet-paced : e.seen.requests.granted ≡ None → e.seen.wire.byte ≡ None → Paced P (e ∷ l) next
    quiet-paced g b = same-paced g (λ k n. rw (since-same l e g b) (i.own k n))

    -- a byte of an earlier request would be P late
    pub byte-own : (b : Byte) → e.seen.wire.byte ≡ Some b → (k : ℕ) → length (requests l) ≡ suc k → no_other k e.origin ≡ true
    byte-own b x k n = go e.origin (rw x at (now (asked_and_done_in_time P) l e a.pace.asked))
      where
        late : latest_t ticks l ≤ e.seen.now
        late = clock-holds (rw (x, or-true (is_some e.seen.requests.granted)) (or-true (is_some e.seen.opening)))

        go : (o : Option ℕ) → of_origin (λ j. ltb j (length (requests l)) && ltb e.seen.now (queued_at j l + P)) o ≡ true → no_other k o ≡ true
        go None y = refl
        go (Some j) y =
            let granted : j < length (requests l) = ltb-true _ _ (and_left (ltb j (length (requests l))) _ y) in
            let soon : e.seen.now < queued_at j l + P = ltb-true _ _ (and_right (ltb j (length (requests l))) _ y) in
            below_or_not (suc j) (length (requests l)) (λ w. absurd (omega (arith, i.old j w, late))) (λ w. eq-eqb j k (omega arith))

    -- the period since the latest 02, or the boot delay since the opening
    pub rested : Free s.opening s.past e.seen.now → latest_t ticks l ≤ e.seen.now → from_of (Some s) + P ≤ e.seen.now
    rested f late = go (last_queued s.past) refl
      where
        delay : P ≤ s.opening.config.boot_delay_ms
        delay = leb-true _ _ (and_left _ _ i.set)

        period : P ≤ s.opening.config.request_period_ms
        period = leb-true _ _ (and_right (leb P s.opening.config.boot_delay_ms) _ i.set)

        wide : from_of (Some s) < 2 ^ 64
        wide = omega (arith, i.passed, given-before.wide)

        go : (t : Option ℕ) → last_queued s.past ≡ t → from_of (Some s) + P ≤ e.seen.now
        go None x = rw x (omega (arith, due-after _ _ _ (rw x at wide) (omega (arith, rw x at i.passed, late)) f.booted, delay))
        go (Some t) x = rw x (omega (arith, due-after _ _ _ (rw x at wide) (omega (arith, rw x at i.passed, late)) (rw x at f.paced), period))
