-- 05 of a byte that the parser only holds: nothing else moves but the quiet time.
use Rattle.std.proofs.Common.{◌≡◌, ℕ, true, ltb, None}
use Rattle.blheli_telemetry.specs.Parser.{collected}
use Rattle.blheli_telemetry.proofs.ParserLaws.{push-few}
use Rattle.esc_feedback.specs.Manager.{set_parser, heard_by}
use Rattle.esc_feedback.specs.Wire.{received_on, push_wire}
use Rattle.esc_feedback.specs.declared.manager.EscManager.{EscManager}

pub pushed-collected : (m : EscManager) (byte at : ℕ) → ltb m.parser.len 9 ≡ true
    → push_wire m byte at ≡ record { manager = set_parser (collected m.parser byte).parser (heard_by m at); answer = None }
unfolding push_wire received_on
pushed-collected m byte at few = rw (push-few m.parser byte few)
