-- The characters passed stand behind those that were held.
use Rattle.std.proofs.Common.{◌≡◌, ℕ, ◌+◌, ◌-◌, min, length, take, arith, sym, ap, ◌∙◌}
use Rattle.std.proofs.lemmas.List.{length-take, length-take-le}
use Rattle.hex_lines.specs.HeldLine.{held_characters}
use Rattle.hex_lines.specs.Line.{most_held}
use Rattle.hex_lines.proofs.HeldLaws.{held-short, up_to_room}
use Rattle.hex_lines.proofs.held_line.HeldLine.hold.Goals as goal

pub returns : goal.returns
returns c = let l = c.loop-i in
    let line = held_characters c.args.self.now in
    let more = c.args.more.now in
    let within = c.args.self.now.within in
    let held : length line ≡ c.args.self.now.count = length-take-le _ _ (omega arith) in
    let all : l.i ≡ c.min-n.result = omega (arith, length-take c.min-n.result more) in
    let room : l.i ≡ min (length more) (most_held - length line) = omega arith in
    ap (λ (n : ℕ). take (c.args.self.now.count + n) l.self.characters) (sym all)
    ∙ l.invariant.held
    ∙ up_to_room line more l.i (held-short c.args.self.now) room
