-- The unit's quiet rule. While faulted, the quiet start is no earlier than any request or byte; a recovery comes the quiet time after it,
-- a new opening too. So of a request before them nothing was heard for the quiet time, and no answer within it is still to come.
use mathlib.Core.Path.{◌≡◌, refl, sym, ◌∙◌}
use mathlib.Core.List.{[], ◌∷◌}
use Rattle.std.specs.Prelude.{Option, None, Some}
use mathlib.Core.Bool.{Bool, true, false, ◌||◌, true≢false, false≢true}
use Prim.Native.Nat.{ℕ, zero, suc, ◌+◌, ◌-◌, ◌*◌, ◌^◌, ◌≤◌, ◌<◌, min, max}
use native.Mathlib.Omega.{arith}
use native.Mathlib.Nat.{one-le-pow, le-mul_of_pos_right}
use lib.ListN.{length}
use lib.Dec.{eqb, leb}
use borrow.Author.Tests.{leb-true, eqb-true, ne_eqb}
use Rattle.base.specs.Choice.{pick}
use Rattle.esc_feedback.specs.declared.config.EscManagerConfig.{EscManagerConfig}
use Rattle.esc_feedback.specs.declared.answer.EscManagerTimeout.{EscManagerTimeout}
use Rattle.esc_lanes.specs.declared.request.EscActuatorRequest.{EscActuatorRequest}
use Rattle.esc_lanes.specs.declared.request.EscTelemetryUpdate.{EscTelemetryUpdate}
use Rattle.booking.specs.History.{Opening, Byte, Past, Since}
use Rattle.booking.specs.Faults.{faulted, quiet_since, retries}
use Rattle.booking.specs.Claims.{past_of}
use Rattle.attribution.specs.Marks.{LogEntry, Log, since_in}
use Rattle.attribution.specs.Origin.{requests, at_recovery, at_opening}
use Rattle.attribution.specs.Clock.{latest_t}
use Rattle.attribution.specs.Times.{stamped, clock_at, byte_at, last_heard, quiet_of, waits_for}
use Rattle.attribution.proofs.LawfulLog.{Lawful}
use Rattle.attribution.proofs.Steps.{Shows, Step, plain, grants, takes, answers, ends, restarts}
use Rattle.attribution.proofs.Since.{requests-keep}
use Rattle.attribution.proofs.Along.{opening_of, along}
use Rattle.attribution.proofs.Heard.{
  earlier,
  clock-grows,
  clock-now,
  stamped-grant,
  stamped-byte,
  stamped-timeout,
  stamped-recovery,
  earlier-keeps,
  heard-keeps,
  heard-grant,
  heard-byte,
  fault-keeps,
  quiet-grows,
}
use Rattle.attribution.proofs.Rested.{Timely, Prompts, not_earlier, Times, times-before, clock-holds, answer-now, wait-now}

module _ (o : Opening) (l : Log) (h : Past) (e : LogEntry) (i : Timely l h o.config.recovery_quiet_ms)
    (clock : stamped e.seen ≡ true → clock_at l ≤ e.seen.now)
    (prompts : Prompts l h e o.config.recovery_quiet_ms) where
  abbrev quiet : ℕ
  quiet = o.config.recovery_quiet_ms

  -- no grant, no byte, no timeout, no recovery
  same-timely : (d : Option EscTelemetryUpdate) → Shows e.seen None None d None false → Timely (e ∷ l) (e.seen ∷ h) quiet
  same-timely d s =
      record {
        granted = rw (earlier-keeps l e s.recovered s.opening, requests-keep l e s.granted) i.granted;
        heard = λ k. rw (same k) (omega (arith, i.heard k, clock-grows l e));
        waits = λ f k. rw (same k) (omega (arith, i.waits (sym still ∙ f) k, quiet-grows h e.seen s.timeout));
        rested = λ f k x. rw (same k) (omega (arith, i.rested (sym still ∙ f) k (rw (earlier-keeps l e s.recovered s.opening) at x), clock-grows l e));
      }
    where
      same : (k : ℕ) → last_heard k (e ∷ l) ≡ last_heard k l
      same k = heard-keeps l e k s.granted s.byte

      still : faulted (e.seen ∷ h) ≡ faulted h
      still = fault-keeps h e.seen s.timeout s.recovered

  -- a grant is not of an earlier request
  grant-timely : (q : EscActuatorRequest) → faulted h ≡ false
      → Shows e.seen (Some (record { request = q; at = e.seen.now })) None None None false → Timely (e ∷ l) (e.seen ∷ h) quiet
  unfolding requests
  grant-timely q f s =
      record {
        granted = rw (earlier-keeps l e s.recovered s.opening, s.granted) (omega (arith, i.granted));
        heard = λ k. rw (now-heard k) (heard-by k (eqb (length (requests l)) k));
        waits = λ x. absurd (false≢true (sym f ∙ sym still ∙ x));
        rested = λ x k y. rested-by k (rw (earlier-keeps l e s.recovered s.opening) at y);
      }
    where
      still : faulted (e.seen ∷ h) ≡ faulted h
      still = fault-keeps h e.seen s.timeout s.recovered

      now-heard : (k : ℕ) → last_heard k (e ∷ l) ≡ pick (eqb (length (requests l)) k) e.seen.now (last_heard k l)
      now-heard k = heard-grant l e k _ s.granted s.byte

      heard-by : (k : ℕ) (b : Bool) → pick b e.seen.now (last_heard k l) ≤ clock_at (e ∷ l)
      heard-by k true = clock-now l e (stamped-grant e.seen _ s.granted)
      heard-by k false = omega (arith, i.heard k, clock-grows l e)

      rested-by : (k : ℕ) → k < earlier l → last_heard k (e ∷ l) + quiet ≤ clock_at (e ∷ l)
      rested-by k y =
          let z : eqb (length (requests l)) k ≡ false = ne_eqb (length (requests l)) k (λ w. omega (arith, i.granted, w)) in
          rw (now-heard k, z) (omega (arith, i.rested f k y, clock-grows l e))

  -- a byte moves the quiet start while faulted, and else is not of an earlier request
  byte-timely : (b : ℕ) (d : Option EscTelemetryUpdate) → e.seen.requests.acknowledged ≡ None
      → Shows e.seen None (Some (record { value = b; at = e.seen.now })) d None false → Timely (e ∷ l) (e.seen ∷ h) quiet
  unfolding quiet_since
  byte-timely b d a s =
      record {
        granted = rw (earlier-keeps l e s.recovered s.opening, requests-keep l e s.granted) i.granted;
        heard = λ k. rw (now-heard k) (heard-by k e.origin);
        waits = λ f k. rw (now-heard k) (waits-by k e.origin (sym still ∙ f));
        rested = λ f k x. rw (now-heard k) (rested-by k e.origin refl (sym still ∙ f) (rw (earlier-keeps l e s.recovered s.opening) at x));
      }
    where
      t : Byte
      t = record { value = b; at = e.seen.now }

      still : faulted (e.seen ∷ h) ≡ faulted h
      still = fault-keeps h e.seen s.timeout s.recovered

      now-heard : (k : ℕ) → last_heard k (e ∷ l) ≡ byte_at k e.origin (Some t) (last_heard k l)
      now-heard k = heard-byte l e k t s.granted s.byte

      mark : stamped e.seen ≡ true
      mark = stamped-byte e.seen t s.byte

      heard-by : (k : ℕ) (o : Option ℕ) → byte_at k o (Some t) (last_heard k l) ≤ clock_at (e ∷ l)
      heard-by k None = omega (arith, i.heard k, clock-grows l e)
      heard-by k (Some j) = go (eqb j k)
        where
          go : (z : Bool) → pick z e.seen.now (last_heard k l) ≤ clock_at (e ∷ l)
          go true = clock-now l e mark
          go false = omega (arith, i.heard k, clock-grows l e)

      moved : faulted h ≡ true → quiet_since (e.seen ∷ h) ≡ max (quiet_since h) e.seen.now
      moved f = rw (s.timeout, a, s.byte, f)

      waits-by : (k : ℕ) (o : Option ℕ) → faulted h ≡ true → byte_at k o (Some t) (last_heard k l) ≤ quiet_since (e.seen ∷ h)
      waits-by k None f = rw (moved f) (omega (arith, i.waits f k))
      waits-by k (Some j) f = rw (moved f) (go (eqb j k))
        where
          go : (z : Bool) → pick z e.seen.now (last_heard k l) ≤ max (quiet_since h) e.seen.now
          go true = omega arith
          go false = omega (arith, i.waits f k)

      rested-by : (k : ℕ) (o : Option ℕ) → e.origin ≡ o → faulted h ≡ false → k < earlier l → byte_at k o (Some t) (last_heard k l) + quiet ≤ clock_at (e ∷ l)
      rested-by k None x f y = omega (arith, i.rested f k y, clock-grows l e)
      rested-by k (Some j) x f y = go (eqb j k) refl
        where
          go : (z : Bool) → eqb j k ≡ z → pick z e.seen.now (last_heard k l) + quiet ≤ clock_at (e ∷ l)
          go true z =
              let n = not_earlier l h quiet e.seen.now i f (clock mark) j (prompts t s.byte f j x) in
              absurd (omega (arith, eqb-true j k z))
          go false z = omega (arith, i.rested f k y, clock-grows l e)

  -- a timeout starts the quiet time after all that was heard
  timeout-timely : (t : EscManagerTimeout) → Shows e.seen None None None (Some t) false → Timely (e ∷ l) (e.seen ∷ h) quiet
  unfolding quiet_since faulted
  timeout-timely t s =
      record {
        granted = rw (earlier-keeps l e s.recovered s.opening, requests-keep l e s.granted) i.granted;
        heard = λ k. rw (same k) (omega (arith, i.heard k, clock-grows l e));
        waits = λ f k. rw (same k, begins) (omega (arith, i.heard k, clock (stamped-timeout e.seen t s.timeout)));
        rested = λ f. absurd (true≢false (rw s.timeout at f));
      }
    where
      same : (k : ℕ) → last_heard k (e ∷ l) ≡ last_heard k l
      same k = heard-keeps l e k s.granted s.byte

      begins : quiet_since (e.seen ∷ h) ≡ e.seen.now
      begins = rw s.timeout

  -- a recovery comes the quiet time after all that was heard
  recovery-timely : faulted h ≡ true → quiet * 2 ^ min (retries h) 3 ≤ e.seen.now - quiet_since h → Shows e.seen None None None None true
      → Timely (e ∷ l) (e.seen ∷ h) quiet
  unfolding faulted at_recovery at_opening
  recovery-timely f w s =
      record {
        granted = rw (now-earlier, requests-keep l e s.granted) (omega (arith, i.granted));
        heard = λ k. rw (same k) (omega (arith, i.heard k, clock-grows l e));
        waits = λ x. absurd (false≢true (rw (s.timeout, s.recovered) at x));
        rested = λ x k y. rw (same k) (rested-by k quiet refl);
      }
    where
      now-earlier : earlier (e ∷ l) ≡ max (length (requests l)) (at_opening l)
      now-earlier = rw (s.recovered, s.opening)

      same : (k : ℕ) → last_heard k (e ∷ l) ≡ last_heard k l
      same k = heard-keeps l e k s.granted s.byte

      at_least : quiet ≤ quiet * 2 ^ min (retries h) 3
      at_least = le-mul_of_pos_right quiet (one-le-pow (min (retries h) 3) 2 (omega arith))

      now-in : e.seen.now ≤ clock_at (e ∷ l)
      now-in = clock-now l e (stamped-recovery e.seen s.recovered)

      rested-by : (k q : ℕ) → quiet ≡ q → last_heard k l + quiet ≤ clock_at (e ∷ l)
      rested-by k zero z = omega (arith, i.heard k, clock-grows l e, z)
      rested-by k (suc q) z = omega (arith, i.waits f k, at_least, w, now-in, z)

  timely-step : Step o h e.seen → Timely (e ∷ l) (e.seen ∷ h) quiet
  timely-step (plain s) = same-timely None s
  timely-step (grants q f s) = grant-timely q f.calm s
  timely-step (takes b a s) = byte-timely b _ a s
  timely-step (answers q s) = same-timely _ s
  timely-step (ends t s) = timeout-timely t s
  timely-step (restarts c f w s) = recovery-timely f w s

abbrev pub TimelySince : Log → Option Since → Type 0
TimelySince l s = Timely l (past_of s) (quiet_of s)

-- an opening comes the quiet time after all that was heard, unless nothing was asked
timely-new : (l : Log) (s : Option Since) → TimelySince l s → (c : EscManagerConfig) (t : ℕ) (o : Option ℕ)
    → waits_for l (Some (record { config = c; boot = t })) ≡ true
    → Timely (opening_of c t o ∷ l) [] c.recovery_quiet_ms
unfolding faulted requests at_recovery at_opening last_heard latest_t
timely-new l s i c t o w =
    record {
      granted = omega (arith, i.granted);
      heard = λ k. omega (arith, i.heard k);
      waits = λ x. absurd (false≢true x);
      rested = λ f k x. rested-by k (omega (arith, i.granted)) (eqb (length (requests l)) 0) refl w;
    }
  where
    rested-by : (k : ℕ) → k < length (requests l) → (b : Bool) → eqb (length (requests l)) 0 ≡ b → (b || leb (clock_at l + c.recovery_quiet_ms) t) ≡ true
        → last_heard k l + c.recovery_quiet_ms ≤ max (clock_at l) t
    rested-by k x true b y = absurd (omega (arith, eqb-true (length (requests l)) 0 b))
    rested-by k x false b y = omega (arith, i.heard k, leb-true (clock_at l + c.recovery_quiet_ms) t y)

timely-start : Timely [] [] 0
unfolding faulted requests at_recovery at_opening last_heard latest_t
timely-start = record { granted = omega arith; heard = λ k. omega arith; waits = λ x. absurd (false≢true x); rested = λ f k x. absurd (omega arith) }

pub timely : (l : Log) → Lawful l → Times l → TimelySince l (since_in l)
timely =
    along (λ l s. Times l → TimelySince l s) (λ t. timely-start)
    (λ l c b o i t. timely-new l (since_in l) (i (times-before l (opening_of c b o) t)) c b o (wait-now l (opening_of c b o) t))
    (λ l s e k x st i t.
    timely-step s.opening l s.past e (i (times-before l e t)) (clock-holds l e t) (λ b y z j w. rw x at (answer-now l e t b y (rw x z) j w)) st)
