-- The first 59 characters of a line say as much as the whole, since such a line is too wide; and they may be held part by part.
use Rattle.std.proofs.Common.{◌≡◌, ℕ, ◌+◌, ◌-◌, ◌≤◌, List, [], ◌∷◌, ◌++◌, length, take, min, sym, ap, ◌∙◌, arith}
use Rattle.std.proofs.lemmas.List.{length-take, length-take-le, take_all, take-append-le, take_min}
use lib.Seq.{take-take, take-append-add}
use Rattle.base.proofs.ByCases.{below_or_not}
use Rattle.hex_lines.specs.HeldLine.{held_characters}
use Rattle.hex_lines.specs.Line.{read_line, most_held}
use Rattle.hex_lines.specs.declared.held_line.HeldLine.{HeldLine}
use Rattle.hex_lines.proofs.LineLaws.{read_wide}

pub enough-line : (line : List ℕ) → read_line (take most_held line) ≡ read_line line
enough-line line =
    below_or_not (length line) most_held
    (λ h. ap read_line (take_all most_held line (omega arith)))
    (λ h. read_wide (take most_held line) (omega (arith, length-take-le most_held line h)) ∙ sym (read_wide line (omega arith)))

pub enough-more : (line : List ℕ) (c : ℕ) → take most_held (take most_held line ++ c ∷ []) ≡ take most_held (line ++ c ∷ [])
enough-more line c =
    below_or_not (length line) most_held
    (λ h. ap (λ (l : List ℕ). take most_held (l ++ c ∷ [])) (take_all most_held line (omega arith)))
    (λ h.
    take-append-le most_held (take most_held line) (c ∷ []) (omega (arith, length-take-le most_held line h))
    ∙ take-take most_held most_held line (omega arith)
    ∙ sym (take-append-le most_held line (c ∷ []) h))

-- as much more of a line as there is room for
pub up_to_room : (line more : List ℕ) (n : ℕ) → length line ≤ most_held → n ≡ min (length more) (most_held - length line)
    → line ++ take n more ≡ take most_held (line ++ more)
up_to_room line more n h e =
    let room : most_held ≡ length line + (most_held - length line) = omega arith in
    let m : n ≡ min (most_held - length line) (length more) = omega arith in
    rw m (ap (λ (l : List ℕ). line ++ l) (take_min (most_held - length line) more))
    ∙ sym (take-append-add line more (most_held - length line))
    ∙ ap (λ (k : ℕ). take k (line ++ more)) (sym room)

-- no line holds more
pub held-short : (line : HeldLine) → length (held_characters line) ≤ most_held
held-short line = let within = line.within in simp length-take (omega arith)
