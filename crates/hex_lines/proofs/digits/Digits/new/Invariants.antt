-- So far each character passed has its value.
use Rattle.hex_lines.proofs.TableLaws.{Tabling}
use Rattle.hex_lines.proofs.digits.Digits.new.Given as goal

abbrev pub invariant-loop-character : goal.invariant-loop-character
invariant-loop-character l = Tabling l.values l.character
