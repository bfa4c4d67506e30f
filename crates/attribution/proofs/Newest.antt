-- Of the sample that the newest accepted record of a list delivers: a claim that is proved of it, or one that is false.
use mathlib.Core.Path.{◌≡◌, refl, sym, ◌∙◌, ap}
use mathlib.Core.Bool.{Bool, true, false, true≢false, false≢true}
use mathlib.Core.List.{List, [], ◌∷◌}
use Rattle.std.specs.Prelude.{Option, None, Some, is_some}
use Rattle.esc_lanes.specs.declared.request.EscTelemetryUpdate.{EscTelemetryUpdate}
use Rattle.attribution.specs.Marks.{Marked, LogEntry, Log, log_of, log_after}
use Rattle.attribution.specs.EachSample.{OfEachSample}
use Rattle.attribution.proofs.ByRule.{marked-by-rule}
use Rattle.attribution.proofs.Delivery.{delivered_in}
use Rattle.attribution.proofs.Lists.{rule_log}

pub record Newest (ms : List Marked) (Claim : Log → EscTelemetryUpdate → Type 0) : Type 0 where
  pub entry : LogEntry
  pub before : Log
  pub sample : EscTelemetryUpdate
  pub newest : log_after ms ≡ entry ∷ before
  pub delivers : entry.seen.requests.delivered ≡ Some sample
  pub holds : Claim (entry ∷ before) sample

abbrev pub Refuted : (Log → EscTelemetryUpdate → Type 0) → List Marked → Type 0
Refuted Claim ms = Newest ms (λ l u. Claim l u → ⊥)

module _ (ms : List Marked) (Claim : Log → EscTelemetryUpdate → Type 0) where
  -- what is known of the list by the rule alone decides
  pub newest-by : (Known : Log → Type 0) → OfEachSample Known Claim ms → is_some (delivered_in (rule_log ms)) ≡ true → Known (rule_log ms) → Newest ms Claim
  newest-by Known claim = go (rule_log ms) (ap log_of (marked-by-rule ms))
    where
      go : (l : Log) → log_after ms ≡ l → is_some (delivered_in l) ≡ true → Known l → Newest ms Claim
      go [] x d k = absurd (false≢true d)
      go (e ∷ l) x d k = sampled e.seen.requests.delivered refl d
        where
          sampled : (u : Option EscTelemetryUpdate) → e.seen.requests.delivered ≡ u → is_some u ≡ true → Newest ms Claim
          sampled None y z = absurd (false≢true z)
          sampled (Some u) y z = record { entry = e; before = l; sample = u; newest = x; delivers = y; holds = claim [] e l u x y k }

-- a test that each sample passes of which the claim holds, and that fails
pub refuted-by : (Claim : Log → EscTelemetryUpdate → Type 0) (test : Log → Bool) → ((l : Log) (u : EscTelemetryUpdate) → Claim l u → test l ≡ true)
    → (ms : List Marked) → is_some (delivered_in (rule_log ms)) ≡ true → test (rule_log ms) ≡ false → Refuted Claim ms
refuted-by Claim test passes ms =
    newest-by ms (λ l u. Claim l u → ⊥) (λ l. test l ≡ false) (λ later e l u x y k c. true≢false (sym (passes (e ∷ l) u c) ∙ k))
