-- What a first Qualified stands for, over every list of calls (document 01, 'Idle check'; demand 3). The claim reads
-- the samples that were delivered, and not the streaks by which the rule answers.
use Rattle.std.specs.Prelude.{ℕ, ◌≤◌, ◌≡◌, Bool, false, not, ◌&&◌, length, take}
use mathlib.Core.List.{List, [], ◌∷◌, Memᴰ}
use Rattle.std.specs.Prelude.{Option, None, Some, is_some}
use Rattle.base.specs.Choice.{pick}
use Rattle.base.specs.Reply.{accepted}
use Rattle.esc_lanes.specs.declared.output.Lane.{Lane}
use Rattle.esc_lanes.specs.declared.request.EscTelemetryUpdate.{EscTelemetryUpdate}
use Rattle.esc_idle.specs.declared.idle_config.EscIdleQualificationConfig.{EscIdleQualificationConfig}
use Rattle.esc_idle.specs.declared.idle_verdict.EscIdleQualificationStatus.TheVariants.{Qualified}
use Rattle.esc_records.specs.Record.{read_record}
use Rattle.esc_unit.specs.Unit.{call_of}
use Rattle.esc_records.specs.declared.record.Record.{Record}
use Rattle.esc_answers.specs.declared.answer.Answer.{Answer}
use Rattle.base.specs.Maybe.{only_if}
use Rattle.booking.specs.History.{Call, Check, Seen, seen, said_by, Past, Since, since}
use Rattle.booking.specs.IdleRule.{check, verdict, erpm, expired, past_grace}
use Rattle.booking.specs.Samples.{added}
use Rattle.booking.specs.Run.{run}

-- at a now without Due(start, now, grace) a sample is ignored (not counted)
abbrev pub grace_over : Option Check → ℕ → Bool
grace_over None now = false
grace_over (Some k) now = past_grace k now

-- every other sample passed before a verdict is a counted one, in or out of limits; a verdict is any status 02 to 05 answered
-- since the latest 0a
abbrev pub counts : Past → ℕ → Bool
counts h now = not (is_some (verdict h)) && grace_over (check h) now

-- a lane's counted samples, newest first; counting starts at the latest 0a
unfoldable pub counted : Past → Lane → List EscTelemetryUpdate
counted [] l = []
counted (e ∷ h) l = pick (is_some e.idle.check) [] (added (only_if (counts h e.now) e.requests.delivered) l (counted h l))

-- within limits is neither below min nor above max
pub record Within (c : EscIdleQualificationConfig) (u : EscTelemetryUpdate) : Type 0 where
  pub low : c.min_erpm_div100 ≤ erpm u
  pub high : erpm u ≤ c.max_erpm_div100

-- what a lane's counted samples must be: the required number of them, the last that many within limits, the newest not expired
pub record Justified (c : EscIdleQualificationConfig) (now : ℕ) (us : List EscTelemetryUpdate) : Type 0 where
  pub enough : c.required_consecutive_samples ≤ length us
  pub within : (u : EscTelemetryUpdate) → Memᴰ u (take c.required_consecutive_samples us) → Within c u
  -- a lane's newest is its last counted one
  pub newest : EscTelemetryUpdate
  pub older : List EscTelemetryUpdate
  pub last : us ≡ newest ∷ older
  pub fresh : expired c now newest ≡ false

-- a record and its answer, after h: there is a check, that of the latest 0a, and every lane is justified by it; expiry is
-- judged at the now of the record that first says Qualified
pub record Earned (h : Past) (e : Seen) : Type 0 where
  pub latest_check : Check
  pub latest : check h ≡ Some latest_check
  pub lanes : (l : Lane) → Justified latest_check.config e.now (counted (e ∷ h) l)

-- after any list of calls, an accepted call whose answer says Qualified, the first verdict since the latest 0a, has earned it
unfoldable pub QualifiedOnlyIf : Type 0
QualifiedOnlyIf =
    (cs : List Call) (s : Since) (c : Call) (r : Record) (a : Answer)
    → since (run cs).history ≡ Some s
    → read_record c.bytes ≡ accepted r
    → (call_of (run cs).unit c.bytes c.room).reply ≡ accepted a
    → (said_by a).status ≡ Some (Some Qualified)
    → verdict s.past ≡ None
    → Earned s.past (seen r a)
