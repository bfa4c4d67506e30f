-- Whether a record is taken, by a unit that was opened or was not.
use Rattle.std.specs.Prelude.{ℕ, Bool, true, false, ◌||◌, List}
use Rattle.base.specs.Choice.{pick}
use Rattle.base.specs.Reply.{Reply, accepted, refused}
use Rattle.esc_records.specs.Record.{read_record}
use Rattle.esc_records.specs.declared.record.Record.{Record}
use Rattle.esc_records.specs.declared.record.Record.TheVariants as kind

-- 00 opens the unit
abbrev pub opens : Record → Bool
opens (kind.Open c t) = true
opens (kind.NextRequest now) = false
opens (kind.MarkRequestQueued q now) = false
opens (kind.ActuatorAck k now) = false
opens (kind.PollTimeout now) = false
opens (kind.WireByte x now) = false
opens kind.WireDiscontinuity = false
opens (kind.TryRecover armed now) = false
opens kind.TakeBackAfterRetries = false
opens kind.RefreshWireStats = false
opens (kind.IdleCheck c t) = false
opens (kind.IdleStatus now) = false
opens kind.Report = false
opens (kind.StoredSample o) = false
opens (kind.Figures o) = false

-- 4 to 7 by the bytes, 8 by whether the unit was opened
abbrev pub admitted_on : Bool → Reply Record → Reply Record
admitted_on opened (refused n) = refused n
admitted_on opened (accepted r) = pick (opened || opens r) (accepted r) (refused 8)

unfoldable pub admitted_of : Bool → List ℕ → Reply Record
admitted_of opened s = admitted_on opened (read_record s)
