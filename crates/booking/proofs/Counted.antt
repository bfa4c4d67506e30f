-- A lane's streak is the newest part of its counted samples, all of it within limits: a sample below min clears it, one above max
-- ends the check.
use mathlib.Core.Path.{◌≡◌, refl, ap}
use mathlib.Core.List.Memᴰ
use mathlib.Core.List.{List, [], ◌∷◌, ◌++◌, Memᴰ}
use Rattle.std.specs.Prelude.{Option, None, Some}
use mathlib.Core.Bool.{Bool, true, false, ◌&&◌}
use Prim.Native.Nat.{ℕ, zero, suc, ◌≤◌, ◌<◌}
use native.Mathlib.Omega.{arith}
use borrow.Author.Tests.{ltb-false}
use lib.Dec.{eqb, ltb}
use lib.ListN.{length, take, length-append}
use lib.Seq.{take-append-le}
use Rattle.base.specs.Choice.{pick}
use Rattle.esc_lanes.specs.Output.{lane_of, lane_number}
use Rattle.esc_lanes.specs.declared.output.Lane.{Lane}
use Rattle.esc_lanes.specs.declared.request.EscTelemetryUpdate.{EscTelemetryUpdate}
use Rattle.esc_idle.specs.declared.idle_config.EscIdleQualificationConfig.{EscIdleQualificationConfig}
use Rattle.base.specs.Maybe.{only_if}
use Rattle.booking.specs.History.{Check}
use Rattle.booking.specs.IdleRule.{erpm, expired, past_grace, fresh, joined, streak_at, tally}
use Rattle.booking.specs.Samples.{added}
use Rattle.booking.specs.Qualified.{Within, Justified}

-- a lane's streak among its counted samples
pub record Newest (c : EscIdleQualificationConfig) (us all : List EscTelemetryUpdate) : Type 0 where
  pub before : List EscTelemetryUpdate
  pub whole : all ≡ us ++ before
  pub within : (u : EscTelemetryUpdate) → Memᴰ u us → Within c u

module _ (c : EscIdleQualificationConfig) where
  pub cleared : (all : List EscTelemetryUpdate) → Newest c [] all
  cleared all = record { before = all; whole = refl; within = λ u m. absurd (Memᴰ.not-nil m) }

  longer : (u : EscTelemetryUpdate) (us all : List EscTelemetryUpdate) → Within c u → Newest c us all → Newest c (u ∷ us) (u ∷ all)
  longer u us all w i = record { before = i.before; whole = ap (λ (z : List EscTelemetryUpdate). u ∷ z) i.whole; within = every }
    where
      every : (v : EscTelemetryUpdate) → Memᴰ v (u ∷ us) → Within c v
      every v (Memᴰ.head e) = rw e w
      every v (Memᴰ.tail m) = i.within v m

  freshened : (now : ℕ) (us all : List EscTelemetryUpdate) → Newest c us all → Newest c (fresh c now us) all
  freshened now [] all i = i
  freshened now (u ∷ us) all i = go (expired c now u)
    where
      go : (b : Bool) → Newest c (pick b [] (u ∷ us)) all
      go true = cleared all
      go false = i

  -- a counted sample that is not above max
  counting : (u : EscTelemetryUpdate) (l : Lane) (us all : List EscTelemetryUpdate) → ltb c.max_erpm_div100 (erpm u) ≡ false
      → Newest c us all → Newest c (joined c u l us) (added (Some u) l all)
  counting u l us all n i = go (eqb (lane_of u.output) (lane_number l)) (ltb (erpm u) c.min_erpm_div100) refl
    where
      inside : ltb (erpm u) c.min_erpm_div100 ≡ false → Within c u
      inside m =
          record {
            low = ltb-false (erpm u) c.min_erpm_div100 m;
            high = ltb-false c.max_erpm_div100 (erpm u) n;
          }

      go : (s b : Bool) → ltb (erpm u) c.min_erpm_div100 ≡ b → Newest c (pick s (pick b [] (u ∷ us)) us) (pick s (u ∷ all) all)
      go false b m = i
      go true true m = cleared (u ∷ all)
      go true false m = longer u us all (inside m) i

-- a sample past grace and above max
abbrev pub over : Check → Option EscTelemetryUpdate → ℕ → Bool
over k None now = false
over k (Some u) now = past_grace k now && ltb k.config.max_erpm_div100 (erpm u)

-- where nothing is delivered nothing is counted
pub uncounted : (d : Bool) → only_if {A = EscTelemetryUpdate} d None ≡ None
uncounted true = refl
uncounted false = refl

pub run-counts : (k : Check) (x : Option EscTelemetryUpdate) (now : ℕ) (l : Lane) (us all : List EscTelemetryUpdate) → over k x now ≡ false
    → Newest k.config us all → Newest k.config (streak_at k x now l us) (added (only_if (past_grace k now) x) l all)
run-counts k None now l us all n i = rw (uncounted (past_grace k now)) (freshened k.config now us all i)
run-counts k (Some u) now l us all n i = go (past_grace k now) n
  where
    go : (d : Bool) → (d && ltb k.config.max_erpm_div100 (erpm u)) ≡ false
        → Newest k.config (pick d (fresh k.config now (joined k.config u l us)) us) (added (only_if d (Some u)) l all)
    go true n = freshened k.config now (joined k.config u l us) (added (Some u) l all) (counting k.config u l us all n i)
    go false n = i

-- a streak that is long enough, and whose newest has not expired
mem-take : (n : ℕ) (us : List EscTelemetryUpdate) (u : EscTelemetryUpdate) → Memᴰ u (take n us) → Memᴰ u us
mem-take zero us u m = absurd (Memᴰ.not-nil m)
mem-take (suc n) [] u m = absurd (Memᴰ.not-nil m)
mem-take (suc n) (x ∷ us) u (Memᴰ.head e) = Memᴰ.head e
mem-take (suc n) (x ∷ us) u (Memᴰ.tail m) = Memᴰ.tail (mem-take n us u m)

module _ (c : EscIdleQualificationConfig) (now : ℕ) (all : List EscTelemetryUpdate) (needed : 0 < c.required_consecutive_samples) where
  justified : (us : List EscTelemetryUpdate) → Newest c us all → c.required_consecutive_samples ≤ length us
      → ((u : EscTelemetryUpdate) (older : List EscTelemetryUpdate) → us ≡ u ∷ older → expired c now u ≡ false) → Justified c now all
  justified [] i n f = absurd (omega arith)
  justified (u ∷ us) i n f =
      let w = i.whole in
      record {
        enough = rw (w, length-append) (omega arith);
        within = λ v m. i.within v (mem-take c.required_consecutive_samples (u ∷ us) v (rw (
          w,
          take-append-le
              c.required_consecutive_samples (u ∷ us) i.before n,
        ) at m));
        newest = u;
        older = us ++ i.before;
        last = w;
        fresh = f u us refl;
      }

  still-fresh : (us : List EscTelemetryUpdate) (u : EscTelemetryUpdate) (older : List EscTelemetryUpdate) → fresh c now us ≡ u ∷ older → expired c now u ≡ false
  still-fresh [] u older e = let z : ◌≡◌ {A = ℕ} 0 1 = cc in absurd (omega arith)
  still-fresh (v ∷ us) u older e = go (expired c now v) refl
    where
      go : (b : Bool) → expired c now v ≡ b → expired c now u ≡ false
      go true d = let z : [] ≡ u ∷ older = rw d at e in absurd (let y : ◌≡◌ {A = ℕ} 0 1 = cc in omega arith)
      go false d = let z : v ∷ us ≡ u ∷ older = rw d at e in let y : v ≡ u = cc in rw y at d

  pub fresh-justified : (us : List EscTelemetryUpdate) → Newest c (fresh c now us) all → c.required_consecutive_samples ≤ tally (fresh c now us) →
      Justified c now all
  fresh-justified us i n = justified (fresh c now us) i (omega arith) (still-fresh us)
