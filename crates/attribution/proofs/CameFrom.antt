-- What the three forms share. Where each byte that comes while a request is open has an origin as assumed, and each request is granted on
-- a clean wire, a sample came from its request: all earlier ones are spent, so the bytes since the grant are its own.
use mathlib.Core.Path.{◌≡◌, refl, sym, ◌∙◌, ap, subst}
use mathlib.Core.List.{[], ◌∷◌, append-nil}
use Rattle.std.specs.Prelude.{Option, None, Some, is_some}
use Rattle.std.proofs.lemmas.Option.{none-some, same_Some}
use mathlib.Core.Bool.{true, false, true≢false}
use Prim.Native.Nat.{ℕ, ◌≤◌, ◌<◌}
use native.Mathlib.Omega.{arith}
use lib.ListN.{length}
use Rattle.esc_feedback.specs.declared.config.EscManagerConfig.{EscManagerConfig}
use Rattle.esc_feedback.specs.declared.answer.EscManagerTimeout.{EscManagerTimeout}
use Rattle.esc_lanes.specs.declared.request.EscActuatorRequest.{EscActuatorRequest}
use Rattle.esc_lanes.specs.declared.request.EscTelemetryUpdate.{EscTelemetryUpdate}
use Rattle.booking.specs.History.{Opening, Timed, Byte, Past, Since}
use Rattle.booking.specs.Wire.{wire}
use Rattle.booking.specs.Booking.{open_request}
use Rattle.booking.specs.Faults.{faulted}
use Rattle.booking.specs.Claims.{past_of}
use Rattle.booking.proofs.UnitSteps.{Calm}
use Rattle.attribution.specs.Marks.{LogEntry, Log, since_in, past}
use Rattle.attribution.specs.Origin.{requests, sent_by, at_recovery, at_opening}
use Rattle.attribution.specs.Since.{taken_since}
use Rattle.attribution.specs.Wiring.{Scope, Wiring}
use Rattle.attribution.specs.Attributed.{CameFrom}
use Rattle.attribution.proofs.LawfulLog.{Lawful}
use Rattle.attribution.proofs.Steps.{Shows, Passes, passing, Free, Step, plain, grants, takes, answers, ends, restarts}
use Rattle.attribution.proofs.Along.{opening_of, along}
use Rattle.attribution.proofs.Calm.{calm}
use Rattle.attribution.proofs.Latest.{Clean}
use Rattle.attribution.proofs.Spent.{Spent, spent-keeps, all-spent-keeps, Origin, wiring-before, origin}
use Rattle.attribution.proofs.Since.{since-grant}
use Rattle.attribution.proofs.Within.{CleanGrants, Within, within-nothing, step-within}
use Rattle.attribution.proofs.Delivery.{Delivery, delivery, delivered_in}
use Rattle.attribution.proofs.Asked.{Asked, came, all-spent, asked-same, asked-more}

-- where a log stands: faulted, or with nothing open and nothing left to come, or with a request open
pub record Stands (l : Log) (h : Past) : Type 0 where
  pub idle : open_request h ≡ None → faulted h ≡ false → Spent l (length (requests l))
  pub asked : (q : Timed) → open_request h ≡ Some q → Asked l q.request
  pub within : Within (taken_since l) h
  pub came_from : (u : EscTelemetryUpdate) → delivered_in l ≡ Some u → CameFrom l u

late : (n k : ℕ) → k < n → n ≤ k → ⊥
late n k a b = omega arith

module _ (o : Opening) (l : Log) (h : Past) (e : LogEntry) (i : Stands l h) (unasked : Calm h)
    (known : (q : Timed) → open_request h ≡ Some q → (b : Byte) → e.seen.wire.byte ≡ Some b → Origin l e.origin)
    (w : Within (taken_since (e ∷ l)) (e.seen ∷ h)) (delivers : (u : EscTelemetryUpdate) → e.seen.requests.delivered ≡ Some u → Delivery h e u) where
  -- an entry that neither grants nor ends a request
  module _ (s : Passes e.seen) where
    asks : (q : Timed) → open_request h ≡ Some q → Asked (e ∷ l) q.request
    asks q x = go e.seen.wire.byte refl
      where
        go : (b : Option Byte) → e.seen.wire.byte ≡ b → Asked (e ∷ l) q.request
        go None y = asked-same l e s.granted s.opening s.recovered q.request (i.asked q x) y
        go (Some b) y = asked-more l e s.granted s.opening s.recovered q.request (i.asked q x) b y (known q x b y)

  from : (u : EscTelemetryUpdate) → e.seen.requests.delivered ≡ Some u → CameFrom (e ∷ l) u
  from u k =
      let d = delivers u k in
      subst (CameFrom (e ∷ l)) d.sample
      (came (e ∷ l) d.asked.request d.frame (asks d.passes d.asked d.there) (w.frame d.frame d.latest))

  -- a sample ends the request, and all is spent
  passed : Passes e.seen → Stands (e ∷ l) (e.seen ∷ h)
  unfolding open_request faulted
  passed s = go e.seen.requests.delivered refl
    where
      go : (u : Option EscTelemetryUpdate) → e.seen.requests.delivered ≡ u → Stands (e ∷ l) (e.seen ∷ h)
      go None k =
          let n : open_request (e.seen ∷ h) ≡ open_request h = rw (k, s.timeout, s.granted) in
          let f : faulted (e.seen ∷ h) ≡ faulted h = rw (s.timeout, s.recovered) in
          record {
            idle = λ x y. all-spent-keeps l e s.opening s.recovered s.granted (i.idle (sym n ∙ x) (sym f ∙ y));
            asked = λ q x. asks s q (sym n ∙ x);
            within = w;
            came_from = from;
          }
      go (Some u) k =
          let d = delivers u k in
          let n : open_request (e.seen ∷ h) ≡ None = rw k in
          record {
            idle = λ x y. all-spent (e ∷ l) d.asked.request d.frame (asks s d.asked d.there) (w.frame d.frame d.latest);
            asked = λ q x. absurd (none-some q (sym n ∙ x));
            within = w;
            came_from = from;
          }

  -- a grant: all before it is spent, and no byte came in since
  grant-stands : (q : EscActuatorRequest) → Free o h e.seen.now
      → Shows e.seen (Some (record { request = q; at = e.seen.now })) None None None false → Stands (e ∷ l) (e.seen ∷ h)
  unfolding open_request requests
  grant-stands q f s =
      record {
        idle = λ x. absurd (none-some _ (sym (sym now-open ∙ x)));
        asked = λ p x. subst (λ (t : Timed). Asked (e ∷ l) t.request) (same_Some _ _ (sym now-open ∙ x)) ask;
        within = w;
        came_from = from;
      }
    where
      now-open : open_request (e.seen ∷ h) ≡ Some (record { request = q; at = e.seen.now })
      now-open = rw (s.delivered, s.timeout, s.granted)

      ask : Asked (e ∷ l) q
      ask =
          record {
            earlier = requests l;
            newest = rw s.granted;
            spent = spent-keeps l e s.opening s.recovered (length (requests l)) (i.idle f.unasked f.calm);
            own =
                record {
                  bytes = [];
                  since = since-grant l e _ s.granted;
                  before = sent_by (length (requests l)) (e ∷ l);
                  sent = sym (append-nil (sent_by (length (requests l)) (e ∷ l)));
                  few = λ n. absurd (omega arith);
                };
          }

  -- no fault and no request: all is spent
  none_open : open_request (e.seen ∷ h) ≡ None → (faulted (e.seen ∷ h) ≡ false → Spent (e ∷ l) (length (requests (e ∷ l)))) → Stands (e ∷ l) (e.seen ∷ h)
  none_open n s = record { idle = λ x. s; asked = λ q x. absurd (none-some q (sym n ∙ x)); within = w; came_from = from }

  timeout-stands : (t : EscManagerTimeout) → Shows e.seen None None None (Some t) false → Stands (e ∷ l) (e.seen ∷ h)
  unfolding open_request faulted
  timeout-stands t s = none_open (rw (s.delivered, s.timeout)) (λ f. absurd (true≢false (rw s.timeout at f)))

  -- a recovery: no byte of an earlier request comes
  recovery-stands : faulted h ≡ true → Shows e.seen None None None None true → Stands (e ∷ l) (e.seen ∷ h)
  unfolding open_request requests at_recovery
  recovery-stands f s = none_open (rw (s.delivered, s.timeout, s.granted) (unasked f)) (λ w. nothing-before)
    where
      nothing-before : Spent (e ∷ l) (length (requests (e ∷ l)))
      nothing-before k a r o = absurd (late (length (requests l)) k (rw s.granted at a) (rw s.recovered at r))

  pub step-stands : Step o h e.seen → Stands (e ∷ l) (e.seen ∷ h)
  step-stands (plain s) = passed (passing e.seen s)
  step-stands (grants q f s) = grant-stands q f s
  step-stands (takes b a s) = passed (passing e.seen s)
  step-stands (answers q s) = passed (passing e.seen s)
  step-stands (ends t s) = timeout-stands t s
  step-stands (restarts c f x s) = recovery-stands f s

stands-new : (l : Log) (c : EscManagerConfig) (t : ℕ) (o : Option ℕ) → Stands (opening_of c t o ∷ l) []
unfolding open_request faulted requests at_opening
stands-new l c t o =
    record {
      idle = λ n f k a r b. absurd (late (length (requests l)) k a b);
      asked = λ q x. absurd (none-some q x);
      within = within-nothing (taken_since (opening_of c t o ∷ l));
      came_from = λ u x. absurd (none-some u x);
    }

stands-start : Stands [] []
unfolding open_request faulted requests
stands-start =
    record {
      idle = λ n f k a r b. absurd (omega arith);
      asked = λ q x. absurd (none-some q x);
      within = within-nothing (taken_since []);
      came_from = λ u x. absurd (none-some u x);
    }

-- the five assumptions speak of each byte that comes while a request is open
abbrev pub Covers : Scope → Type 0
Covers scope = (l : Log) → Lawful l → is_some (open_request (past l)) ≡ true → scope l ≡ true

module _ (scope : Scope) (covers : Covers scope) where
  stands-more : (l : Log) (s : Since) (e : LogEntry) → Lawful l → since_in l ≡ Some s → Step s.opening s.past e.seen
      → Wiring scope (e ∷ l) → CleanGrants (e ∷ l) → Stands l s.past → Stands (e ∷ l) (e.seen ∷ s.past)
  stands-more l s e k x st w c i =
      step-stands s.opening l s.past e i (subst Calm same (calm l k)) (λ q y b z. origin scope l e w b z (covers l k (rw (same, y))))
      (step-within s.opening l s.past e i.within (λ g y. subst (λ (h : Past). Clean (wire h)) same (c.0 g y)) st)
      (λ u y. delivery s.opening s.past e u st y)
      st
    where
      same : past l ≡ s.past
      same = ap past_of x

  pub stands : (l : Log) → Lawful l → Wiring scope l → CleanGrants l → Stands l (past l)
  stands =
      along (λ l s. Wiring scope l → CleanGrants l → Stands l (past_of s)) (λ w c. stands-start) (λ l f t o i w c. stands-new l f t o)
      (λ l s e k x st i w c. stands-more l s e k x st w c (i (wiring-before scope l e w) c.1))
