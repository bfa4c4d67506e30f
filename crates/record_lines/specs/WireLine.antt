-- A line with a wire byte, read straight into its numbers.
use Rattle.std.specs.Prelude.{ℕ, ◌<◌, ◌≡◌, Bool, true, List, [], length}
use Rattle.base.specs.BigEndian.{number_at}
use Rattle.base.specs.Reply.{accepted}
use Rattle.blheli_telemetry.specs.Parser.{collecting}
use Rattle.blheli_telemetry.specs.declared.parser.StreamParser.{StreamParser}
use Rattle.esc_records.specs.declared.record.Record.TheVariants as kind
use Rattle.hex_lines.specs.Line.{all_digits, pairs, read_line}
use Rattle.hex_lines.specs.NextLine.{first_line}
use Rattle.record_lines.specs.NextRecord.{record_by, admitted_by}
use Rattle.record_lines.specs.declared.wire_line.WireByte.{WireByte}

-- digits, and the number of eight bytes that they stand for
pub record NumberRead (text : List ℕ) (number : ℕ) : Type 0 where
  pub digits : all_digits text ≡ true
  pub value : number ≡ number_at 8 (pairs text) 0

-- LF ends the first line of the chunk behind 20 characters, it stands for this 05, and an opened unit takes that
pub record WireAt (chunk : List ℕ) (wire : WireByte) : Type 0 where
  pub long : 20 < length chunk
  pub ends : length (first_line chunk) ≡ 20
  pub stands : record_by (read_line (first_line chunk)) ≡ accepted (kind.WireByte wire.byte wire.at_ms)
  pub admitted : admitted_by true (read_line (first_line chunk)) ≡ accepted (kind.WireByte wire.byte wire.at_ms)

-- besides, nothing of a line is held, and the parser only collects the byte
pub record CollectedAt (begun : List ℕ) (p : StreamParser) (chunk : List ℕ) (wire : WireByte) : Type 0 where
  pub none : begun ≡ []
  pub few : collecting p ≡ true
  pub line : WireAt chunk wire

-- the same of how many characters are held and of a unit: none are, the unit was opened, and its parser only collects the byte
pub record CollectedIfOpened (held : ℕ) (opened : Bool) (p : StreamParser) (chunk : List ℕ) (wire : WireByte) : Type 0 where
  pub none : held ≡ 0
  pub before : opened ≡ true
  pub few : collecting p ≡ true
  pub line : WireAt chunk wire
