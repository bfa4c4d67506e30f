-- So far each character passed has its value.
use Rattle.std.proofs.Common.{◌≡◌, arith}
use Rattle.hex_lines.proofs.TableLaws.{tabling_none, tabling_more, tabling-all}
use Rattle.hex_lines.proofs.digits.Digits.new.Goals as goal

pub loop-character-init : goal.loop-character-init
loop-character-init c = tabling_none

pub loop-character-preserved : goal.loop-character-preserved
loop-character-preserved c = rw c.from.ensures
    (tabling_more c.loop-character.invariant (omega arith) (omega arith) c.value_of.result c.value_of.ensures)

pub invariant_of-result : goal.invariant_of-result
invariant_of-result c = let all : c.loop-character.character ≡ 103 = omega arith in
    record { tabled = tabling-all (rw all at c.loop-character.invariant) }
