-- A stream past the characters of a line, and past its end.
use mathlib.Core.Path.{◌≡◌, refl, sym, ap, ◌∙◌}
use mathlib.Core.List.{List, [], ◌∷◌, ◌++◌, append-nil, append_assoc}
use Prim.Native.Nat.{ℕ, suc, ◌+◌, ◌-◌, ◌≤◌}
use native.Mathlib.Omega.{arith}
use borrow.Author.Tests.{le-leb, lt-leb}
use lib.ListN.{length, take}
use lib.Seq.{take_all}
use Rattle.esc_unit.specs.declared.unit.Unit.{Unit}
use Rattle.hex_lines.specs.Line.{line_end, most_held}
use Rattle.unit_text.specs.Session.{unit_after, line_text}
use Rattle.unit_text.specs.Stream.{Streamed, after_one, after, printed, taken, longest_line}
use Rattle.hex_lines.proofs.HeldLaws.{enough-more}
use Rattle.unit_text.proofs.HeldAnswer.{enough-unit, enough-text}
use Rattle.hex_lines.proofs.Unended.{Unended}
use Rattle.unit_text.proofs.StreamLaws.{passed, after-append, printed-append, after-end, printed-end, after-other, printed-other}

past : (u : Unit) (line more : List ℕ) → Unended more → after (passed u line) more ≡ passed u (line ++ more)
unfolding after
past u line [] n = rw (append-nil line)
past u line (c ∷ more) n =
    rw (after-other (passed u line) c n.0, enough-more line c)
    (past u (line ++ c ∷ []) more n.1 ∙ ap (passed u) (append_assoc line (c ∷ []) more))

pub printed-past : (s : Streamed) (more : List ℕ) → Unended more → printed s more ≡ []
unfolding printed
printed-past s [] n = refl
printed-past s (c ∷ more) n = rw (printed-other s c n.0) (printed-past (after_one s c) more n.1)

pub taken-past : (s : Streamed) (room : ℕ) (more text : List ℕ) → longest_line ≤ room → Unended more
    → taken s room (more ++ text) ≡ length more + taken (after s more) room text
unfolding taken after
taken-past s room [] text h n = omega arith
taken-past s room (c ∷ more) text h n =
    let none : room - length {A = ℕ} [] ≡ room = omega arith in
    rw (le-leb longest_line room h, printed-other s c n.0, none)
    (ap suc (taken-past (after_one s c) room more text h n.1) ∙ omega arith)

-- no room for a line: nothing is taken
pub taken-stop : (s : Streamed) (room : ℕ) (text : List ℕ) → room + 1 ≤ longest_line → taken s room text ≡ 0
unfolding taken
taken-stop s room [] h = refl
taken-stop s room (c ∷ text) h = rw (lt-leb longest_line room (omega arith))

module _ (u : Unit) (line more : List ℕ) (short : length line ≤ most_held) (n : Unended more) where
  pub after-held : after (record { unit = u; line = line }) more ≡ record { unit = u; line = take most_held (line ++ more) }
  after-held = ap (λ (l : List ℕ). after (record { unit = u; line = l }) more) (sym (take_all most_held line short)) ∙ past u line more n

  pub after_line : after (record { unit = u; line = line }) (more ++ line_end ∷ []) ≡ record { unit = unit_after u (line ++ more); line = [] }
  unfolding after
  after_line =
      after-append (record { unit = u; line = line }) more (line_end ∷ [])
      ∙ rw after-held (after-end (passed u (line ++ more)) line_end refl ∙ rw (enough-unit u (line ++ more)))

  pub printed-line : printed (record { unit = u; line = line }) (more ++ line_end ∷ []) ≡ line_text u (line ++ more)
  unfolding printed
  printed-line =
      printed-append (record { unit = u; line = line }) more (line_end ∷ [])
      ∙ rw (printed-past (record { unit = u; line = line }) more n, after-held, append-nil)
      (printed-end (passed u (line ++ more)) line_end refl ∙ enough-text u (line ++ more))

  pub taken-line : (room : ℕ) (text : List ℕ) → longest_line ≤ room
      → taken (record { unit = u; line = line }) room (more ++ line_end ∷ text)
      ≡ length more + suc (taken (record { unit = unit_after u (line ++ more); line = [] }) (room - length (line_text u (line ++ more))) text)
  unfolding taken
  taken-line room text h =
      taken-past (record { unit = u; line = line }) room more (line_end ∷ text) h n
      ∙ rw (
        after-held,
        le-leb longest_line room h,
        after-end (passed u (line ++ more)) line_end refl,
        printed-end (passed u (line ++ more)) line_end refl,
        enough-unit u (line ++ more),
        enough-text u (line ++ more),
      )
      refl
