-- The lines of a text: three laws that settle them for every text (document 01, 'Records').
use mathlib.Core.Path.{◌≡◌, refl, sym, ap, ◌∙◌}
use mathlib.Core.List.{List, [], ◌∷◌, ◌++◌, append-nil, append_assoc}
use Prim.Native.Nat.{ℕ}
use borrow.Author.Tests.{eq-eqb, ne_eqb}
use lib.ListN.{length}
use Rattle.hex_lines.specs.Line.{line_end}
use Rattle.hex_lines.proofs.Unended.{Unended}
use Rattle.hex_lines.specs.Lines.{lines_from, lines_of}

pub lines-at-end : (line text : List ℕ) (c : ℕ) → c ≡ line_end → lines_from line (c ∷ text) ≡ line ∷ lines_of text
unfolding lines_from
lines-at-end line text c e = rw (eq-eqb c line_end e)

pub lines-at-other : (line text : List ℕ) (c : ℕ) → (c ≡ line_end → ⊥) → lines_from line (c ∷ text) ≡ lines_from (line ++ c ∷ []) text
unfolding lines_from
lines-at-other line text c n = rw (ne_eqb c line_end n)

pub lines-past : (line more text : List ℕ) → Unended more → lines_from line (more ++ text) ≡ lines_from (line ++ more) text
lines-past line [] text u = rw (append-nil line)
lines-past line (c ∷ more) text u =
    lines-at-other line (more ++ text) c u.0
    ∙ lines-past (line ++ c ∷ []) more text u.1
    ∙ ap (λ (l : List ℕ). lines_from l text) (append_assoc line (c ∷ []) more)

-- empty input holds no line
pub lines_none : lines_of [] ≡ []
unfolding lines_from
lines_none = refl

-- LF ends a line, and what follows it is read anew: after a last LF there is no further line
pub lines-ended : (line text : List ℕ) → Unended line → lines_of (line ++ line_end ∷ text) ≡ line ∷ lines_of text
lines-ended line text u = lines-past [] line (line_end ∷ text) u ∙ lines-at-end line text line_end refl

-- the end of input ends a line that has begun
pub lines-last : (line : List ℕ) → Unended line → (length line ≡ 0 → ⊥) → lines_of line ≡ line ∷ []
unfolding lines_from
lines-last line u some =
    ap lines_of (sym (append-nil line)) ∙ lines-past [] line [] u ∙ rw (ne_eqb (length line) 0 some)
