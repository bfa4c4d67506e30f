-- Framing along the rest of a list (document 01, 'Frame'): what the unit's parser gives at each 05 after a cut.
use Rattle.std.specs.Prelude.{◌≡◌, Bool, true, false, ◌||◌, List, [], ◌∷◌}
use Rattle.std.specs.Prelude.{Option, None, Some, is_some}
use Rattle.base.specs.Reply.{Reply, accepted, refused}
use Rattle.blheli_telemetry.specs.Parser.{push_of}
use Rattle.blheli_telemetry.specs.declared.frame.EscTelemetry.{EscTelemetry}
use Rattle.blheli_telemetry.specs.declared.parser.StreamParser.{StreamParser}
use Rattle.esc_records.specs.Record.{read_record}
use Rattle.esc_unit.specs.Unit.{call_of}
use Rattle.esc_records.specs.declared.record.Record.{Record}
use Rattle.esc_answers.specs.declared.answer.Answer.{Answer}
use Rattle.esc_unit.specs.declared.unit.Unit.{Unit}
use Rattle.booking.specs.History.{Call, Byte, Seen, seen}
use Rattle.booking.specs.Wire.{OnWire, byte, cut, on_wire, wire}
use Rattle.booking.specs.Run.{run}
use Rattle.booking.specs.Parser.{parser_of}
use Rattle.booking.specs.Claims.{past_after}

-- an accepted call: what it shows, and the unit's parser as it found it
pub record Passed : Type 0 where
  pub shows : Seen
  pub parser : StreamParser

-- refused ones are passed over
abbrev pub passed_in : StreamParser → Reply Record → Reply Answer → List Passed → List Passed
passed_in p (refused n) y later = later
passed_in p (accepted r) (refused n) later = later
passed_in p (accepted r) (accepted a) later = record { shows = seen r a; parser = p } ∷ later

-- the accepted ones of the calls fed to a unit, in their order
unfoldable pub passed : Unit → List Call → List Passed
passed u [] = []
passed u (c ∷ cs) =
    passed_in (parser_of u) (read_record c.bytes) (call_of u c.bytes c.room).reply (passed (call_of u c.bytes c.room).unit cs)

-- of a list `before ++ after`, those after `before`
abbrev pub rest : List Call → List Call → List Passed
rest before after = passed (run before).unit after

-- a 00 is among them
unfoldable pub reopened : List Passed → Bool
reopened [] = false
reopened (e ∷ later) = is_some e.shows.opening || reopened later

-- their bytes and cuts: the 05s, and the 06s and 07s answered yes
unfoldable pub heard : List Passed → List OnWire
heard [] = []
heard (e ∷ later) = on_wire e.shows.wire.byte e.shows.wire.cut (heard later)

abbrev pub given_at : StreamParser → Option Byte → List (Option EscTelemetry) → List (Option EscTelemetry)
given_at p None later = later
given_at p (Some b) later = (push_of p b.value).parsed ∷ later

-- what the parser gives at each of their 05s, a sample or nothing: the first entry belongs to the first 05, and so on
unfoldable pub given : List Passed → List (Option EscTelemetry)
given [] = []
given (e ∷ later) = given_at e.parser e.shows.wire.byte (given later)

-- a cut came, and no byte since
abbrev pub just_cut : List OnWire → Bool
just_cut [] = false
just_cut (cut ∷ w) = true
just_cut (byte b ∷ w) = false

-- two lists that hold the same bytes and cuts, in the same order, after some cut of each are framed alike there: the parser gives
-- samples at the same 05s counted from that cut, with the same payloads. Their other records and all times may differ
abbrev pub FramedAlikeFromCut : Type 0
FramedAlikeFromCut =
    (before after before' after' : List Call)
    → just_cut (wire (past_after before)) ≡ true
    → just_cut (wire (past_after before')) ≡ true
    → reopened (rest before after) ≡ false
    → reopened (rest before' after') ≡ false
    → heard (rest before after) ≡ heard (rest before' after')
    → given (rest before after) ≡ given (rest before' after')
