-- What 0d shows of a lane, over every list of calls (document 01, 'Records' and 'Manager'). The claim reads the samples that were
-- delivered and the recoveries, and no store.
use Rattle.std.specs.Prelude.{◌≡◌, List, [], ◌∷◌}
use Rattle.std.specs.Prelude.{Option, None, Some}
use Rattle.base.specs.Choice.{pick}
use Rattle.base.specs.Reply.{accepted}
use Rattle.esc_lanes.specs.declared.output.Lane.{Lane}
use Rattle.esc_lanes.specs.declared.output.EscOutput.{EscOutput}
use Rattle.esc_lanes.specs.declared.request.EscTelemetryUpdate.{EscTelemetryUpdate}
use Rattle.esc_records.specs.Record.{read_record}
use Rattle.esc_records.specs.declared.record.Record.TheVariants as kind
use Rattle.esc_answers.specs.declared.answer.Answer.{Answer}
use Rattle.esc_answers.specs.declared.answer.Answer.TheVariants as answer
use Rattle.booking.specs.History.{Call, Past}
use Rattle.booking.specs.Samples.{delivered_on}
use Rattle.booking.specs.Claims.{past_after, reply_after}

-- what was accepted after the latest recovery; all of it where there was none
unfoldable pub since_recovery : Past → Past
since_recovery [] = []
since_recovery (e ∷ h) = pick e.requests.recovered [] (e ∷ since_recovery h)

abbrev pub newest_of : List EscTelemetryUpdate → Option EscTelemetryUpdate
newest_of [] = None
newest_of (u ∷ us) = Some u

-- the newest sample delivered to a lane since the opening and the latest recovery; none where there was none
abbrev pub newest_delivered : Lane → Past → Option EscTelemetryUpdate
newest_delivered l h = newest_of (delivered_on (since_recovery h) l)

-- 0d: 00 none, or 01 sample. It only shows one again: the newest that was delivered to its lane since the opening and the latest
-- recovery, which drops stored samples
abbrev pub ShownNewest : Type 0
ShownNewest =
    (cs : List Call) (c : Call) (o : EscOutput) (a : Answer)
    → read_record c.bytes ≡ accepted (kind.StoredSample o)
    → reply_after cs c ≡ accepted a
    → a ≡ answer.Stored (newest_delivered o.0 (past_after cs))
