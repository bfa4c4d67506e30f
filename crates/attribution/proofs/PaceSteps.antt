-- Each step keeps the pace, and so does an opening; so a lawful log has it throughout.
use mathlib.Core.Path.{◌≡◌, refl, ◌∙◌}
use mathlib.Core.List.{[], ◌∷◌}
use Rattle.std.specs.Prelude.{Option, None, Some, is_some}
use mathlib.Core.Bool.{Bool, true, false, or-true}
use Prim.Native.Nat.{ℕ, suc, ◌+◌, ◌≤◌, ◌<◌}
use native.Mathlib.Omega.{arith}
use lib.ListN.{length}
use lib.Dec.{eqb}
use borrow.Author.Tests.{ne_eqb}
use Rattle.base.specs.Choice.{pick}
use Rattle.esc_feedback.specs.declared.config.EscManagerConfig.{EscManagerConfig}
use Rattle.esc_lanes.specs.declared.request.EscActuatorRequest.{EscActuatorRequest}
use Rattle.booking.specs.History.{Byte, Since}
use Rattle.booking.specs.Turns.{last_queued}
use Rattle.attribution.specs.Marks.{LogEntry, Log, since_in}
use Rattle.attribution.specs.Origin.{requests}
use Rattle.attribution.specs.Since.{taken_since}
use Rattle.attribution.specs.Clock.{latest_t, queued_at}
use Rattle.attribution.specs.Pace.{ticks, settings}
use Rattle.attribution.specs.NeverAnotherArm.{no_other}
use Rattle.attribution.proofs.Always.{now}
use Rattle.attribution.proofs.Clock.{time-grows, time-now}
use Rattle.attribution.proofs.LawfulLog.{Lawful}
use Rattle.attribution.proofs.Steps.{Shows, Free, Step, plain, grants, takes, answers, ends, restarts}
use Rattle.attribution.proofs.Along.{opening_of, along}
use Rattle.attribution.proofs.Since.{since-same, since-more, since-grant, each_append}
use Rattle.attribution.proofs.Pace.{from_of, Given, Paced, given-before, clock-holds, next, same-paced, quiet-paced, byte-own, rested}

module _ (P : ℕ) (l : Log) (e : LogEntry) (a : Given P (e ∷ l)) (s : Since) (i : Paced P l (Some s)) where
  byte-paced : e.seen.requests.granted ≡ None → (b : Byte) → e.seen.wire.byte ≡ Some b → Paced P (e ∷ l) (next P l e a s i)
  byte-paced g b x =
      same-paced P l e a s i g
      (λ k n. rw (since-more l e g b x) (each_append (no_other k) (taken_since l) _ ∙ rw (i.own k n, byte-own P l e a s i b x k n)))

  -- a grant: all before it are P old, and no byte came in since
  grant-paced : (q : EscActuatorRequest) → Free s.opening s.past e.seen.now
      → Shows e.seen (Some (record { request = q; at = e.seen.now })) None None None false → Paced P (e ∷ l) (next P l e a s i)
  unfolding last_queued queued_at requests
  grant-paced q f sh =
      record {
        set = i.set;
        passed = rw start (time-now ticks l e tick);
        queued = λ k. rw (start, at k) (by-now k (eqb (length (requests l)) k));
        old = λ k n. old-by k (rw sh.granted at n);
        own = λ k n. rw (since-grant l e _ sh.granted);
      }
    where
      tick : ticks e.seen ≡ true
      tick = rw sh.granted (or-true (is_some e.seen.opening))

      late : latest_t ticks l ≤ e.seen.now
      late = clock-holds P l e a tick

      start : from_of (next P l e a s i) ≡ e.seen.now
      start = rw sh.granted

      at : (k : ℕ) → queued_at k (e ∷ l) ≡ pick (eqb (length (requests l)) k) e.seen.now (queued_at k l)
      at k = rw sh.granted

      by-now : (k : ℕ) (b : Bool) → pick b e.seen.now (queued_at k l) ≤ e.seen.now
      by-now k true = omega arith
      by-now k false = omega (arith, i.queued k, i.passed, late)

      old-by : (k : ℕ) → suc k < suc (length (requests l)) → queued_at k (e ∷ l) + P ≤ latest_t ticks (e ∷ l)
      old-by k n =
          rw (at k, ne_eqb (length (requests l)) k (λ x. omega (arith, x)))
          (omega (arith, i.queued k, rested P l e a s i f late, time-now ticks l e tick))

  step-paced : Step s.opening s.past e.seen → Paced P (e ∷ l) (next P l e a s i)
  step-paced (plain sh) = quiet-paced P l e a s i sh.granted sh.byte
  step-paced (grants q f sh) = grant-paced q f sh
  step-paced (takes b x sh) = byte-paced sh.granted _ sh.byte
  step-paced (answers q sh) = quiet-paced P l e a s i sh.granted sh.byte
  step-paced (ends t sh) = quiet-paced P l e a s i sh.granted sh.byte
  step-paced (restarts c f w sh) = quiet-paced P l e a s i sh.granted sh.byte

-- an opening: its boot T is no less than any before
module _ (P : ℕ) (l : Log) (c : EscManagerConfig) (t : ℕ) (o : Option ℕ) (a : Given P (opening_of c t o ∷ l)) (s : Option Since) (i : Paced P l s) where
  opening-paced : Paced P (opening_of c t o ∷ l) (Some (record { opening = record { config = c; boot = t }; past = [] }))
  unfolding last_queued queued_at requests
  opening-paced =
      record {
        set = now (settings P) l (opening_of c t o) a.pace.set;
        passed = time-now ticks l (opening_of c t o) refl;
        queued = λ k. omega (arith, i.queued k, i.passed, clock-holds P l (opening_of c t o) a refl);
        old = λ k n. omega (arith, i.old k n, time-grows ticks l (opening_of c t o));
        own = λ k n. rw (since-same l (opening_of c t o) refl refl) (i.own k n);
      }

paced-empty : (P : ℕ) → Paced P [] None
unfolding queued_at requests latest_t
paced-empty P = record { set = refl; passed = omega arith; queued = λ k. omega arith; old = λ k n. absurd (omega arith); own = λ k n. absurd (omega arith) }

pub paced : (P : ℕ) (l : Log) → Lawful l → Given P l → Paced P l (since_in l)
paced P =
    along (λ l s. Given P l → Paced P l s) (λ a. paced-empty P)
    (λ l c t o i a. opening-paced P l c t o a (since_in l) (i (given-before P l (opening_of c t o) a)))
    (λ l s e k x st i a. step-paced P l e a s (i (given-before P l e a)) st)
