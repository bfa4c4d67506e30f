-- The books as a function of the history: stored samples and figures are those of the samples delivered, the idle check is the history's.
use mathlib.Core.Path.{◌≡◌, refl, sym, ◌∙◌, ap, fun_ext}
use mathlib.Core.List.{List, [], ◌∷◌}
use Rattle.std.specs.Prelude.{Option, None, Some}
use Rattle.std.proofs.lemmas.Option.{none-some}
use mathlib.Core.Bool.{Bool, true, false}
use Prim.Native.Nat.{ℕ, suc, ◌+◌, ◌-◌, ◌^◌, min, max}
use native.Mathlib.Omega.{arith}
use lib.Dec.{eqb}
use lib.ListN.{length}
use borrow.Author.Tests.{ne_eqb, eqb-true}
use Rattle.base.specs.Choice.{pick}
use Rattle.esc_lanes.specs.Output.{lane_of, lane_number}
use Rattle.esc_lanes.specs.Samples.{no_samples, stored_in, sample_at}
use Rattle.esc_lanes.specs.declared.output.Lane.{Lane}
use Rattle.esc_lanes.specs.declared.output.EscOutput.{EscOutput}
use Rattle.esc_lanes.specs.declared.request.EscTelemetryObservation.{EscTelemetryObservation}
use Rattle.esc_lanes.specs.declared.request.EscTelemetryUpdate.{EscTelemetryUpdate}
use Rattle.esc_lanes.specs.declared.samples.EscSamples.{EscSamples}
use Rattle.esc_idle.specs.declared.idle.EscIdleQualification.{EscIdleQualification}
use Rattle.esc_books.specs.Figures.{no_figure, with_sample, figure_at, figures_with}
use Rattle.esc_books.specs.Books.{no_books, checked_by, samples_dropped, booked_in, idle_status, sample_of, stored_at}
use Rattle.esc_books.specs.declared.figures.Figures.{Figures}
use Rattle.esc_books.specs.declared.books.Books.{Books}
use Rattle.esc_books.specs.declared.books.Booked.{Booked}
use Rattle.booking.specs.History.{Check, Seen, Past}
use Rattle.booking.specs.IdleRule.{judged}
use Rattle.booking.specs.Samples.{stored, delivered_on, hottest, lowest, figure_of}
use Rattle.booking.proofs.Lanes.{four, at-four, set-four, change-kept, lane-eq}
use Rattle.booking.proofs.IdleState.{IdleAt, asked, status-is, idle-same, idle-new, idle-none, idle-unasked, unasked-is}

abbrev held_of : Option EscTelemetryUpdate → Option EscTelemetryObservation
held_of None = None
held_of (Some u) = Some u.observation

abbrev pub samples_at : Past → EscSamples
samples_at h = record { lanes = four (λ l. held_of (stored h l)) }

abbrev pub figures_at : Past → Figures
figures_at h = record { lanes = four (λ l. figure_of (delivered_on h l)) }

pub record BooksAt (h : Past) (b : Books) : Type 0 where
  pub samples : b.samples ≡ samples_at h
  pub idle : IdleAt h b.idle
  pub figures : b.figures ≡ figures_at h

pub books-new : BooksAt [] no_books
unfolding stored delivered_on figure_of hottest lowest
books-new = record { samples = refl; idle = idle-none; figures = refl }

-- figures
add_is : (u : EscTelemetryUpdate) (us : List EscTelemetryUpdate) → with_sample (figure_of us) u.observation.sample ≡ figure_of (u ∷ us)
unfolding with_sample figure_of hottest lowest
add_is u [] = let e : u.observation.sample.temperature_c ≡ max 0 u.observation.sample.temperature_c = omega arith in λ j. record {
  samples
      = 1;
  hottest_c = e j;
  lowest_cv = u.observation.sample.voltage_cv;
}
add_is u (v ∷ us) =
    let some-are : eqb (min (suc (length us)) (2 ^ 32 - 1)) 0 ≡ false = ne_eqb (min (suc (length us)) (2 ^ 32 - 1)) 0 (λ z. omega arith) in
    let e : min (min (suc (length us)) (2 ^ 32 - 1) + 1) (2 ^ 32 - 1) ≡ min (suc (suc (length us))) (2 ^ 32 - 1) = omega arith in
    rw (some-are, e)

figures-took : (h : Past) (e : Seen) (u : EscTelemetryUpdate) → e.requests.delivered ≡ Some u → figures_with (figures_at h) u ≡ figures_at (e ∷ h)
unfolding delivered_on
figures-took h e u d =
    rw (d, change-kept no_figure figure_of (delivered_on h) (λ f. with_sample f u.observation.sample) (λ us. u ∷ us) u.output.0 (add_is u))

figures-same : (h : Past) (e : Seen) → e.requests.delivered ≡ None → figures_at h ≡ figures_at (e ∷ h)
unfolding delivered_on
figures-same h e d = rw d

-- stored samples
held-took : (b : Bool) (u : EscTelemetryUpdate) (old : Option EscTelemetryUpdate)
    → pick b (Some u.observation) (held_of old) ≡ held_of (pick b (Some u) old)
held-took true u old = refl
held-took false u old = refl

samples-took : (h : Past) (e : Seen) (u : EscTelemetryUpdate) → e.requests.delivered ≡ Some u → e.requests.recovered ≡ false
    → stored_in (samples_at h) u ≡ samples_at (e ∷ h)
unfolding stored
samples-took h e u d r =
    rw (d, r, set-four (λ l. held_of (stored h l)) u.output.0 (Some u.observation))
    (ap (λ (f : Lane → Option EscTelemetryObservation). record { lanes = four f })
    (fun_ext (λ l. held-took (eqb (lane_of u.output) (lane_number l)) u (stored h l))))

samples-same : (h : Past) (e : Seen) → e.requests.delivered ≡ None → e.requests.recovered ≡ false → samples_at h ≡ samples_at (e ∷ h)
unfolding stored
samples-same h e d r = rw (d, r)

samples-dropped : (h : Past) (e : Seen) → e.requests.recovered ≡ true → no_samples ≡ samples_at (e ∷ h)
unfolding stored
samples-dropped h e r = rw r

-- a stored sample is of its lane
stored-lane : (h : Past) (l : Lane) (u : EscTelemetryUpdate) → stored h l ≡ Some u → u.output ≡ record { 0 = l }
unfolding stored
stored-lane [] l u e = absurd (none-some u e)
stored-lane (e ∷ h) l u s = go (stored-lane h l u) e.requests.recovered refl e.requests.delivered refl
  where
    lane : (v : EscTelemetryUpdate) (z : Bool) → eqb (lane_of v.output) (lane_number l) ≡ z → (stored h l ≡ Some u → u.output ≡ record { 0 = l })
        → pick z (Some v) (stored h l) ≡ Some u → u.output ≡ record { 0 = l }
    lane v true z before k =
        let n = lane-eq v.output.0 l (eqb-true _ _ z) in
        let same : v ≡ u = cc in
        rw (← same) (λ j. record { 0 = n j })
    lane v false z before k = before k

    go : (stored h l ≡ Some u → u.output ≡ record { 0 = l })
        → (r : Bool) → e.requests.recovered ≡ r → (d : Option EscTelemetryUpdate) → e.requests.delivered ≡ d → u.output ≡ record { 0 = l }
    go before true r d k = absurd (none-some u (rw r at s))
    go before false r None k = before (rw (r, k) at s)
    go before false r (Some v) k = lane v (eqb (lane_of v.output) (lane_number l)) refl before (rw (r, k) at s)

stored_is : (h : Past) (o : EscOutput) (x : Option EscTelemetryUpdate) → stored h o.0 ≡ x → sample_of o (held_of x) ≡ x
stored_is h o None e = refl
stored_is h o (Some u) e =
    let k = stored-lane h o.0 u e in
    λ j. Some (record { output = sym k j; observation = u.observation })

-- what a call makes of the books, and its status
pub record Kept (h : Past) (x : Option EscTelemetryUpdate) (now : ℕ) (e : Seen) (k : Booked) : Type 0 where
  pub books : BooksAt (e ∷ h) k.books
  pub status : k.status ≡ judged h x now

module _ (h : Past) (b : Books) (i : BooksAt h b) where
  -- a delivered sample
  pub took : (u : EscTelemetryUpdate) (now : ℕ) (e : Seen) → e.requests.delivered ≡ Some u → e.requests.recovered ≡ false → e.idle.check ≡ None
      → e.idle.status ≡ Some (booked_in b u now).status → e.now ≡ now → Kept h (Some u) now e (booked_in b u now)
  unfolding booked_in
  took u now e d r c s n = go b.idle refl i.idle
    where
      samples : stored_in b.samples u ≡ samples_at (e ∷ h)
      samples = ap (λ (z : EscSamples). stored_in z u) i.samples ∙ samples-took h e u d r

      figures : figures_with b.figures u ≡ figures_at (e ∷ h)
      figures = ap (λ (z : Figures). figures_with z u) i.figures ∙ figures-took h e u d

      go : (z : Option EscIdleQualification) → b.idle ≡ z → IdleAt h z → Kept h (Some u) now e (booked_in b u now)
      go (Some q) z k =
          rw z
          (record {
            books = record { samples = samples; idle = (asked h q k (Some u) now e c d (rw z at s) n); figures = figures };
            status = status-is h q k (Some u) now;
          })
      go None z k =
          rw z
          (record {
            books = record { samples = samples; idle = idle-unasked h e c k; figures = figures };
            status = unasked-is h (Some u) now k;
          })

  -- 0b
  pub asked-status : (now : ℕ) (e : Seen) → e.requests.delivered ≡ None → e.requests.recovered ≡ false → e.idle.check ≡ None
      → e.idle.status ≡ Some (idle_status b now).status → e.now ≡ now → Kept h None now e (idle_status b now)
  unfolding idle_status
  asked-status now e d r c s n = go b.idle refl i.idle
    where
      samples : b.samples ≡ samples_at (e ∷ h)
      samples = i.samples ∙ samples-same h e d r

      figures : b.figures ≡ figures_at (e ∷ h)
      figures = i.figures ∙ figures-same h e d

      go : (z : Option EscIdleQualification) → b.idle ≡ z → IdleAt h z → Kept h None now e (idle_status b now)
      go (Some q) z k =
          rw z
          (record {
            books = record { samples = samples; idle = (asked h q k None now e c d (rw z at s) n); figures = figures };
            status = status-is h q k None now;
          })
      go None z k =
          rw z
          (record {
            books = record { samples = samples; idle = idle-unasked h e c k; figures = figures };
            status = unasked-is h None now k;
          })

  -- what shows no sample, no status, no 0a
  pub same : (e : Seen) → e.requests.delivered ≡ None → e.requests.recovered ≡ false → e.idle.check ≡ None → e.idle.status ≡ None → BooksAt (e ∷ h) b
  same e d r c s =
      record {
        samples = i.samples ∙ samples-same h e d r;
        idle = idle-same h b.idle e c s i.idle;
        figures = i.figures ∙
            figures-same h e d;
      }

  -- 07 answered yes
  pub dropped : (e : Seen) → e.requests.delivered ≡ None → e.requests.recovered ≡ true → e.idle.check ≡ None → e.idle.status ≡ None
      → BooksAt (e ∷ h) (samples_dropped b)
  dropped e d r c s =
      record { samples = samples-dropped h e r; idle = idle-same h b.idle e c s i.idle; figures = i.figures ∙ figures-same h e d }

  -- 0a
  pub checked : (e : Seen) (k : Check) → e.requests.delivered ≡ None → e.requests.recovered ≡ false → e.idle.check ≡ Some k
      → BooksAt (e ∷ h) (checked_by b k.config k.start)
  checked e k d r c =
      record { samples = i.samples ∙ samples-same h e d r; idle = idle-new h e k c; figures = i.figures ∙ figures-same h e d }

  -- 0d and 0e
  pub stored-at : (o : EscOutput) → stored_at b o ≡ stored h o.0
  stored-at o =
      ap (λ (z : EscSamples). sample_of o (sample_at z o)) i.samples
      ∙ ap (sample_of o) (at-four None (λ l. held_of (stored h l)) o.0)
      ∙ stored_is h o (stored h o.0) refl

  pub figure-at : (o : EscOutput) → figure_at b.figures o ≡ figure_of (delivered_on h o.0)
  figure-at o = ap (λ (z : Figures). figure_at z o) i.figures ∙ at-four no_figure (λ l. figure_of (delivered_on h l)) o.0
