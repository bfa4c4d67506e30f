-- A delivered sample is booked to the open request, which is the latest granted, and was read from the latest frame.
use mathlib.Core.Path.{◌≡◌, refl, sym, ◌∙◌, subst}
use mathlib.Core.List.{List, [], ◌∷◌}
use Rattle.std.specs.Prelude.{Option, None, Some, is_some}
use Rattle.std.proofs.lemmas.Option.{none-some, same_Some}
use mathlib.Core.Bool.{Bool, true, false, ◌||◌}
use Prim.Native.Nat.{ℕ}
use Rattle.base.specs.Choice.{pick}
use Rattle.blheli_telemetry.specs.Frame.{telemetry_of}
use Rattle.esc_lanes.specs.declared.request.EscActuatorRequest.{EscActuatorRequest}
use Rattle.esc_lanes.specs.declared.request.EscTelemetryUpdate.{EscTelemetryUpdate}
use Rattle.base.specs.Maybe.{or_else, only_if}
use Rattle.booking.specs.History.{Opening, Timed, Past}
use Rattle.booking.specs.Wire.{Frame, wire, frame_at, timed}
use Rattle.booking.specs.Booking.{booked, booked_to, only_the, open_request, latest_frame, newly_started, started_request}
use Rattle.booking.specs.Claims.{past_of}
use Rattle.attribution.specs.Marks.{LogEntry, Log, past}
use Rattle.attribution.specs.Origin.{requests}
use Rattle.attribution.specs.EachSample.{booked_on}
use Rattle.attribution.proofs.LawfulLog.{Lawful}
use Rattle.attribution.proofs.Steps.{Passes, passing, Step, plain, grants, takes, answers, ends, restarts}
use Rattle.attribution.proofs.Since.{requests-keep}
use Rattle.attribution.proofs.Along.{opening_of, along}
use Rattle.attribution.proofs.WireSteps.{frame_same, latest-now}

pub record Delivery (h : Past) (e : LogEntry) (u : EscTelemetryUpdate) : Type 0 where
  pub asked : Timed
  pub there : open_request h ≡ Some asked
  pub frame : Frame
  pub latest : latest_frame (e.seen ∷ h) ≡ Some frame
  pub sample : booked asked.request frame ≡ u
  pub passes : Passes e.seen

module _ (o : Opening) (h : Past) (e : LogEntry) (u : EscTelemetryUpdate) where
  -- what a rule books to the open request
  booking : Passes e.seen → (ok : EscActuatorRequest → Bool) (f : Option Frame) → ((k : Frame) → f ≡ Some k → latest_frame (e.seen ∷ h) ≡ Some k)
      → booked_to (only_the (open_request h) ok) f ≡ Some u → Delivery h e u
  booking g ok f frame = go (open_request h) refl f refl
    where
      go : (x : Option Timed) → open_request h ≡ x → (y : Option Frame) → f ≡ y → booked_to (only_the x ok) y ≡ Some u → Delivery h e u
      go None x y z w = absurd (none-some u w)
      go (Some q) x y z w = chosen (ok q.request) y z w
        where
          chosen : (b : Bool) (y : Option Frame) → f ≡ y → booked_to (only_if b (Some q.request)) y ≡ Some u → Delivery h e u
          chosen false y z w = absurd (none-some u w)
          chosen true None z w = absurd (none-some u w)
          chosen true (Some k) z w = record { asked = q; there = x; frame = k; latest = frame k z; sample = same_Some _ _ w; passes = g }

  no-sample : e.seen.requests.delivered ≡ None → e.seen.requests.delivered ≡ Some u → Delivery h e u
  no-sample n k = absurd (none-some u (sym n ∙ k))

  pub delivery : Step o h e.seen → e.seen.requests.delivered ≡ Some u → Delivery h e u
  unfolding started_request newly_started
  delivery (plain s) k = no-sample s.delivered k
  delivery (grants q f s) k = no-sample s.delivered k
  delivery (takes b a s) k =
      booking (passing e.seen s) _ (timed (frame_at (wire h) b) e.seen.now) (λ f. frame (frame_at (wire h) b) refl f) (sym s.delivered ∙ k)
    where
      frame : (y : Option (List ℕ)) → frame_at (wire h) b ≡ y → (f : Frame) → timed y e.seen.now ≡ Some f → latest_frame (e.seen ∷ h) ≡ Some f
      frame None y f z = absurd (none-some f z)
      frame (Some bs) y f z = latest-now h e s.granted (record { value = b; at = e.seen.now }) s.byte bs y ∙ z
  delivery (answers q s) k = booking (passing e.seen s) _ (latest_frame h) (λ f x. frame_same h e s.granted s.byte ∙ x) (sym s.delivered ∙ k)
  delivery (ends t s) k = no-sample s.delivered k
  delivery (restarts c f w s) k = no-sample s.delivered k

-- the sample that the newest record delivers
abbrev pub delivered_in : Log → Option EscTelemetryUpdate
delivered_in [] = None
delivered_in (e ∷ l) = e.seen.requests.delivered

-- the request is the latest granted
pub record Latest (l : Log) (q : EscActuatorRequest) : Type 0 where
  pub earlier : List EscActuatorRequest
  pub newest : requests l ≡ q ∷ earlier

pub record Delivered (l : Log) (h : Past) (u : EscTelemetryUpdate) : Type 0 where
  pub request : Latest l (booked_on u)
  pub frame : Frame
  pub latest : latest_frame h ≡ Some frame
  pub says : u.observation.sample ≡ telemetry_of frame.bytes
  pub when : frame.at ≡ u.observation.observed_at_ms

pub record Booked (l : Log) (h : Past) : Type 0 where
  pub asked : (q : Timed) → open_request h ≡ Some q → Latest l q.request
  pub delivers : (u : EscTelemetryUpdate) → delivered_in l ≡ Some u → Delivered l h u

module _ (o : Opening) (l : Log) (h : Past) (e : LogEntry) (i : Booked l h) where
  latest-keeps : (q : EscActuatorRequest) → e.seen.requests.granted ≡ None → Latest l q → Latest (e ∷ l) q
  latest-keeps q g k = record { earlier = k.earlier; newest = requests-keep l e g ∙ k.newest }

  asked-more : (q : Timed) → open_request (e.seen ∷ h) ≡ Some q → Latest (e ∷ l) q.request
  unfolding open_request requests
  asked-more q = go (is_some e.seen.requests.delivered || is_some e.seen.requests.timeout) e.seen.requests.granted refl
    where
      go : (b : Bool) (g : Option Timed) → e.seen.requests.granted ≡ g → pick b None (or_else g (open_request h)) ≡ Some q → Latest (e ∷ l) q.request
      go true g x y = absurd (none-some q y)
      go false None x y = latest-keeps q.request x (i.asked q y)
      go false (Some g) x y = record { earlier = requests l; newest = rw (x, same_Some g q y) }

  booked-more : Step o h e.seen → Booked (e ∷ l) (e.seen ∷ h)
  booked-more st = record { asked = asked-more; delivers = from }
    where
      from : (u : EscTelemetryUpdate) → e.seen.requests.delivered ≡ Some u → Delivered (e ∷ l) (e.seen ∷ h) u
      from u k =
          let d = delivery o h e u st k in
          subst (Delivered (e ∷ l) (e.seen ∷ h)) d.sample
          (record {
            request = latest-keeps d.asked.request d.passes.granted (i.asked d.asked d.there);
            frame = d.frame;
            latest = d.latest;
            says = refl;
            when = refl;
          })

nothing-booked : (l : Log) → delivered_in l ≡ None → Booked l []
unfolding open_request
nothing-booked l n = record { asked = λ q x. absurd (none-some q x); delivers = λ u x. absurd (none-some u (sym n ∙ x)) }

pub booked-by-rule : (l : Log) → Lawful l → Booked l (past l)
booked-by-rule =
    along (λ l s. Booked l (past_of s)) (nothing-booked [] refl) (λ l c t o i. nothing-booked (opening_of c t o ∷ l) refl)
    (λ l s e k x st i. booked-more s.opening l s.past e i st)
