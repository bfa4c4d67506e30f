-- The parser of a unit: its manager's; where no record gave it a manager, one that has no byte yet.
use Rattle.std.specs.Prelude.{Option, None, Some}
use Rattle.blheli_telemetry.specs.Parser.{new_parser}
use Rattle.blheli_telemetry.specs.declared.parser.StreamParser.{StreamParser}
use Rattle.esc_kinds.specs.declared.opened.Opened.{Opened}
use Rattle.esc_unit.specs.declared.unit.Unit.{Unit}

abbrev pub parser_in : Option Opened → StreamParser
parser_in None = new_parser
parser_in (Some o) = o.manager.parser

abbrev pub parser_of : Unit → StreamParser
parser_of u = parser_in u.opened
