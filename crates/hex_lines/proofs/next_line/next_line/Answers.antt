-- A line that begins in the chunk and whose digits LF follows is read from there; any other is held up to LF, and read as it is held.
use Rattle.std.proofs.Common.{rules, ◌≡◌, [], sym, ap, ◌∙◌}
use Rattle.hex_lines.proofs.FirstLine.{first-place, no-first-place}
use Rattle.hex_lines.proofs.NextLineLaws.{ended-whole, ended-held}
use Rattle.hex_lines.specs.HeldLine.{held_characters}
use Rattle.hex_lines.specs.Line.{read_line}
use Rattle.hex_lines.proofs.next_line.next_line.Goals as goal

pub returns-in_default : goal.returns-in_default
returns-in_default c = (no-first-place c.args.chunk.now (sym c.line_end.ensures ∙ c.in_default.is), c.hold.ensures)

pub returns-then-is_empty-2 : goal.returns-then-is_empty-2
returns-then-is_empty-2 c = let first = first-place c.args.chunk.now c.in-Some-line_end.end (sym c.line_end.ensures ∙ c.in-Some-line_end.is) in
    let none : held_characters c.args.line.now ≡ [] = search rules in
    (ended-whole first none c.read_line-read.result c.read_line-read.ensures, none)

pub returns-2 : goal.returns-2
returns-2 c = let first = first-place c.args.chunk.now c.in-Some-line_end.end (sym c.line_end.ensures ∙ c.in-Some-line_end.is) in
    let read = c.read_line-read-2 in
    (ended-held first c.hold-2.ensures read.result (read.ensures ∙ ap read_line c.characters.ensures), c.clear.ensures)
