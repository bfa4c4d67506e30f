-- The characters passed stand behind those that were held.
use Rattle.std.proofs.Common.{◌≡◌, ◌+◌, ◌++◌, take}
use Rattle.hex_lines.specs.HeldLine.{held_characters}
use Rattle.hex_lines.proofs.held_line.HeldLine.hold.Given as goal

abbrev pub invariant-loop-i : goal.invariant-loop-i
invariant-loop-i l = record {
  count : l.self.count ≡ l.from;
  held : take (l.from + l.i) l.self.characters ≡ held_characters l.initial.self ++ take l.i l.more;
}
