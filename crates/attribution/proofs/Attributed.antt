-- While no fault stands every byte has an origin that still has to send: so none comes where nothing is open, none comes after a frame,
-- and each request is granted on a clean wire.
use mathlib.Core.Path.{◌≡◌, refl, sym, ◌∙◌, ap, subst}
use mathlib.Core.List.{List, [], ◌∷◌}
use Rattle.std.specs.Prelude.{Option, None, Some}
use Rattle.std.proofs.lemmas.Option.{none-some}
use mathlib.Core.Bool.{Bool, true, false, not, true≢false}
use Prim.Native.Nat.{ℕ}
use lib.ListN.{length}
use Rattle.esc_lanes.specs.declared.request.EscActuatorRequest.{EscActuatorRequest}
use Rattle.esc_lanes.specs.declared.request.EscTelemetryUpdate.{EscTelemetryUpdate}
use Rattle.booking.specs.History.{Opening, Timed, Byte, Past, Since}
use Rattle.booking.specs.Wire.{OnWire, byte, Frame, wire, latest, frame_at, timed}
use Rattle.booking.specs.Booking.{booked_to, open_request, latest_frame, started_request, newly_started}
use Rattle.booking.specs.Faults.{faulted}
use Rattle.booking.specs.Claims.{past_of}
use Rattle.booking.proofs.ManagerSteps.{booked-none}
use Rattle.booking.proofs.UnitSteps.{Calm}
use Rattle.attribution.specs.Marks.{LogEntry, Log, since_in, past}
use Rattle.attribution.specs.Origin.{requests}
use Rattle.attribution.specs.Wiring.{while_no_fault, Wiring}
use Rattle.attribution.specs.Attributed.{Attributed}
use Rattle.attribution.proofs.LawfulLog.{Lawful, lawful-at}
use Rattle.attribution.proofs.Steps.{Shows, Step, plain, grants, takes, answers, ends, restarts}
use Rattle.attribution.proofs.Along.{opening_of, along}
use Rattle.attribution.proofs.Calm.{calm}
use Rattle.attribution.proofs.Latest.{Clean, clean_end}
use Rattle.attribution.proofs.Spent.{Spent, Origin, none_left, wiring-before, origin}
use Rattle.attribution.proofs.WireSteps.{wire-same, wire-more, clean-keeps, frame_same}
use Rattle.attribution.proofs.Within.{CleanGrants}
use Rattle.attribution.proofs.Delivery.{delivery}
use Rattle.attribution.proofs.Asked.{all-spent}
use Rattle.attribution.proofs.CameFrom.{Stands, stands}
use Rattle.attribution.proofs.WhileNoFault.{covers}

-- the wire is clean where nothing is open, and where a frame is held
record Silent (h : Past) : Type 0 where
  idle : open_request h ≡ None → faulted h ≡ false → Clean (wire h)
  held : (q : Timed) → open_request h ≡ Some q → (f : Frame) → latest_frame h ≡ Some f → Clean (wire h)

module _ (o : Opening) (l : Log) (h : Past) (e : LogEntry) (i : Stands l h) (unasked : Calm h) (c : Silent h)
    (known : (b : Byte) → e.seen.wire.byte ≡ Some b → faulted h ≡ false → Origin l e.origin) where
  -- no byte, no grant, no recovery
  same-silent : Shows e.seen None None None None false → Silent (e.seen ∷ h)
  unfolding open_request faulted
  same-silent s =
      record {
        idle = λ n f. clean-keeps h e s.byte (c.idle (sym same ∙ n) (rw (s.timeout, s.recovered) at f));
        held = λ q n f x. clean-keeps h e s.byte (c.held q (sym same ∙ n) f (sym (frame_same h e s.granted s.byte) ∙ x));
      }
    where
      same : open_request (e.seen ∷ h) ≡ open_request h
      same = rw (s.delivered, s.timeout, s.granted)

  -- a frame end leaves the wire clean; any other byte comes while a request is open and has no frame
  byte-silent : (b : ℕ)
      → Shows e.seen None (Some (record { value = b; at = e.seen.now })) (booked_to (started_request h) (timed (frame_at (wire h) b)
      e.seen.now)) None false
      → Silent (e.seen ∷ h)
  unfolding open_request faulted latest_frame
  byte-silent b s = go (frame_at (wire h) b) refl
    where
      more-wire : wire (e.seen ∷ h) ≡ byte b ∷ wire h
      more-wire = wire-more h e (record { value = b; at = e.seen.now }) s.byte

      spent : faulted h ≡ false → Spent l (length (requests l)) → ⊥
      spent f = none_left l e.origin (known _ s.byte f)

      go : (t : Option (List ℕ)) → frame_at (wire h) b ≡ t → Silent (e.seen ∷ h)
      go (Some t) y =
          let k : Clean (wire (e.seen ∷ h)) = ap (λ (w : List OnWire). latest w 1) more-wire ∙ clean_end (wire h) b t y in
          record { idle = λ n f. k; held = λ q n f x. k }
      go None y =
          record {
            idle = λ n f. absurd (spent (still ∙ f) (i.idle (sym same ∙ n) (still ∙ f)));
            held = λ q n f x.
                let r = i.within.frame f (sym same-frame ∙ x) in
                absurd (spent (asked (sym same ∙ n)) (all-spent l q.request f (i.asked q (sym same ∙ n)) r));
          }
        where
          d : e.seen.requests.delivered ≡ None
          d = s.delivered ∙ rw (y) (booked-none (started_request h))

          same : open_request (e.seen ∷ h) ≡ open_request h
          same = rw (d, s.timeout, s.granted)

          same-frame : latest_frame (e.seen ∷ h) ≡ latest_frame h
          same-frame = rw (s.granted, s.byte, y)

          still : faulted h ≡ faulted (e.seen ∷ h)
          still = rw (s.timeout, s.recovered)

          asked : {q : Timed} → open_request h ≡ Some q → faulted h ≡ false
          asked {q} x = by (faulted h) refl
            where
              by : (f : Bool) → faulted h ≡ f → f ≡ false
              by false f = refl
              by true f = absurd (none-some q (sym (unasked f) ∙ x))

  -- where an acknowledgement gives a held frame, the wire was clean
  ack-silent : (p : EscActuatorRequest) → Shows e.seen None None (booked_to (newly_started h p) (latest_frame h)) None false → Silent (e.seen ∷ h)
  ack-silent p s = go e.seen.requests.delivered refl
    where
      go : (u : Option EscTelemetryUpdate) → e.seen.requests.delivered ≡ u → Silent (e.seen ∷ h)
      go None d =
          same-silent (record { opening = s.opening; granted = s.granted; byte = s.byte; delivered = d; timeout = s.timeout; recovered = s.recovered })
      go (Some u) k =
          let d = delivery o h e u (answers p s) k in
          let clean = c.held d.asked d.there d.frame (sym (frame_same h e s.granted s.byte) ∙ d.latest) in
          let z : Clean (wire (e.seen ∷ h)) = clean-keeps h e s.byte clean in
          record { idle = λ n f. z; held = λ q n f x. z }

  silent-step : Step o h e.seen → Silent (e.seen ∷ h)
  unfolding open_request faulted latest_frame latest
  silent-step (plain s) = same-silent s
  silent-step (grants q f s) =
      record {
        idle = λ x. absurd (none-some _ (sym (rw (s.delivered, s.timeout, s.granted) at x)));
        held = λ q x f y. absurd (none-some f (rw s.granted at y));
      }
  silent-step (takes b a s) = byte-silent b s
  silent-step (answers q s) = ack-silent q s
  silent-step (ends t s) =
      record {
        idle = λ x f. absurd (true≢false (rw s.timeout at f));
        held = λ q x f y. absurd (none-some q (rw (s.delivered, s.timeout) at x));
      }
  silent-step (restarts k f w s) =
      let z : Clean (wire (e.seen ∷ h)) = ap (λ (w : List OnWire). latest w 1) (wire-same h e s.byte true k) in
      record { idle = λ x f. z; held = λ q x f y. z }

  clean-grant : Step o h e.seen → (g : Timed) → e.seen.requests.granted ≡ Some g → Clean (wire h)
  clean-grant (plain s) g k = absurd (none-some g (sym s.granted ∙ k))
  clean-grant (grants q f s) g k = c.idle f.unasked f.calm
  clean-grant (takes b a s) g k = absurd (none-some g (sym s.granted ∙ k))
  clean-grant (answers q s) g k = absurd (none-some g (sym s.granted ∙ k))
  clean-grant (ends t s) g k = absurd (none-some g (sym s.granted ∙ k))
  clean-grant (restarts x f w s) g k = absurd (none-some g (sym s.granted ∙ k))

silent-new : Silent []
unfolding open_request wire latest
silent-new = record { idle = λ n f. refl; held = λ q n f x. refl }

record Quiet (l : Log) (h : Past) : Type 0 where
  silent : Silent h
  granting : CleanGrants l

module _ (l : Log) (s : Since) (e : LogEntry) (i : Lawful l) (x : since_in l ≡ Some s) (st : Step s.opening s.past e.seen)
    (w : Wiring while_no_fault (e ∷ l)) (j : Quiet l s.past) where
  quiet-more : Quiet (e ∷ l) (e.seen ∷ s.past)
  quiet-more =
      record {
        silent = silent-step s.opening l s.past e at-l calm-l j.silent known st;
        granting =
            (λ g k. subst (λ (h : Past). Clean (wire h)) (sym same) (clean-grant s.opening l s.past e at-l calm-l j.silent known st g k), j.granting);
      }
    where
      same : past l ≡ s.past
      same = ap past_of x

      at-l : Stands l s.past
      at-l = subst (Stands l) same (stands while_no_fault covers l i (wiring-before while_no_fault l e w) j.granting)

      calm-l : Calm s.past
      calm-l = subst Calm same (calm l i)

      known : (b : Byte) → e.seen.wire.byte ≡ Some b → faulted s.past ≡ false → Origin l e.origin
      known b y f = origin while_no_fault l e w b y (ap not (ap faulted same ∙ f))

quiet : (l : Log) → Lawful l → Wiring while_no_fault l → Quiet l (past l)
quiet =
    along (λ l s. Wiring while_no_fault l → Quiet l (past_of s)) (λ w. record { silent = silent-new; granting = tt })
    (λ l c t o i w.
    record { silent = silent-new; granting = (λ g k. absurd (none-some g k), (i (wiring-before while_no_fault l (opening_of c t o) w)).granting) })
    (λ l s e k x st i w. quiet-more l s e k x st w (i (wiring-before while_no_fault l e w)))

pub attributed : Attributed
attributed ms later e l u x d w =
    let i = lawful-at ms later (e ∷ l) x in
    (stands while_no_fault covers (e ∷ l) i w (quiet (e ∷ l) i w).granting).came_from u d
