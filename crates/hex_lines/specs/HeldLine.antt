-- What a held line stands for.
use Rattle.std.specs.Prelude.{ℕ, List, take}
use Rattle.hex_lines.specs.declared.held_line.HeldLine.{HeldLine}

-- the characters of the line that are held
abbrev pub held_characters : HeldLine → List ℕ
held_characters line = take line.count line.characters
