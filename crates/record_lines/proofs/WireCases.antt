-- Lines in capitals and in both letters that stand for a wire byte; by computation. That they are read straight into their numbers is the
-- test in src/wire_line.rt.
use Rattle.std.proofs.Common.{codes, refl, arith}
use Rattle.base.specs.BigEndian.{number_at}
use Rattle.esc_records.specs.Admission.{admitted_of}
use Rattle.esc_records.specs.Record.{record_of, read_record}
use Rattle.hex_lines.specs.Digit.{small_digit, small, digit_of}
use Rattle.hex_lines.specs.Line.{all_digits, pairs, read_line}
use Rattle.hex_lines.specs.NextLine.{first_line}
use Rattle.record_lines.specs.WireLine.{WireAt}

pub wire-cases : WireAt (codes "05E7000000000000ABD6\n06\n") (record { byte = 0xe7; at_ms = 0xabd6 })
    × WireAt (codes "05eF00fF0000Aa00aBd9\n") (record { byte = 0xef; at_ms = 0x00ff0000aa00abd9 })
unfolding first_line read_line all_digits pairs digit_of small small_digit number_at record_of read_record admitted_of
wire-cases = (
  record { long = omega arith; ends = refl; stands = refl; admitted = refl },
  record { long = omega arith; ends = refl; stands = refl; admitted = refl },
)
