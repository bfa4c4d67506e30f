-- Byte by byte the characters stand behind those before, and LF behind all.
use Rattle.std.proofs.Common.{arith}
use Rattle.hex_lines.proofs.PrintLaws.{shown_none, shown_more, shown_all}
use Rattle.hex_lines.proofs.line.print_line.Goals as goal

pub loop-byte-init : goal.loop-byte-init
loop-byte-init c = shown_none _ _ _ c.requires

pub loop-byte-preserved : goal.loop-byte-preserved
loop-byte-preserved c =
    shown_more c.loop-byte.invariant _ _ _ _ (omega arith) c.glyph.ensures c.glyph-in-loop-byte.ensures c.put-end.ensures

pub returns : goal.returns
returns c = let line = shown_all c.loop-byte.invariant _ _ (omega arith) c.put.ensures in
    record { value = line.place; out_after = line.contents }
