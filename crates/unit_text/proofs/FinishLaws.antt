-- The end of input: it answers a line that was begun as an LF would, and no other.
use mathlib.Core.Path.{◌≡◌, refl, sym, ◌∙◌}
use mathlib.Core.List.{List, [], ◌∷◌, append-nil}
use Prim.Native.Nat.{ℕ}
use native.Mathlib.Omega.{arith}
use borrow.Author.Tests.{eq-eqb, ne_eqb, eqb-true}
use mathlib.Core.Bool.{true}
use lib.Dec.{eqb}
use lib.ListN.{length, take}
use Rattle.base.specs.Reply.{accepted}
use Rattle.hex_lines.specs.Line.{line_end}
use Rattle.base.specs.Handed.{handed_reply, handed_output}
use Rattle.esc_unit.specs.declared.unit.Unit.{Unit}
use Rattle.unit_text.specs.Stream.{Streamed, Taken, printed, printed_at_end, feed_of, fed_output, longest_line}
use Rattle.base.proofs.PutLaws.{overwrite-none}
use Rattle.unit_text.proofs.StreamLaws.{printed-end}
use Rattle.base.proofs.HandLaws.{fits-reply, fits-output}
use Rattle.unit_text.proofs.FedLaws.{fed-text, fed-within, fed-some}

module _ (s : Streamed) where
  end_none : length s.line ≡ 0 → printed_at_end s ≡ []
  unfolding printed_at_end
  end_none e = rw (eq-eqb (length s.line) 0 e)

  end-some : (length s.line ≡ 0 → ⊥) → printed_at_end s ≡ printed s (line_end ∷ [])
  unfolding printed_at_end printed
  end-some n = rw (ne_eqb (length s.line) 0 n, append-nil) (sym (printed-end s line_end refl))

  -- no line was begun
  pub finish-none : (out : List ℕ) → length s.line ≡ 0
      → (accepted 0 ≡ handed_reply (printed_at_end s) (length out)) × (out ≡ handed_output (printed_at_end s) out)
  finish-none out e = rw (end_none e) (sym (fits-reply [] out (omega arith)), sym (overwrite-none 0 out) ∙ sym (fits-output [] out (omega arith)))

  -- an LF fed to the stream answers the line
  pub finish-some : (text text' : List ℕ) (t : Taken) → (length s.line ≡ 0 → ⊥) → length text ≡ longest_line
      → t ≡ feed_of s (line_end ∷ []) (length text) → text' ≡ fed_output s (line_end ∷ []) text → take t.written text' ≡ printed_at_end s
  finish-some text text' t n l e o =
      let one : t.used ≡ 1 =
      omega (arith, fed-within s (line_end ∷ []) (length text) t e, fed-some s (line_end ∷ []) (length text) t e (omega arith) (omega arith)) in
      fed-text s (line_end ∷ []) (length text) t e text text' refl o ∙ rw one (sym (end-some n))

-- the same, as the search finds it
pub none_said : (unit : Unit) (begun out : List ℕ) → eqb (length begun) 0 ≡ true
    → handed_reply (printed_at_end (record { unit = unit; line = begun })) (length out) ≡ accepted 0
none_said unit begun out e = sym (finish-none (record { unit = unit; line = begun }) out (eqb-true _ _ e)).0

pub none_put : (unit : Unit) (begun out : List ℕ) → eqb (length begun) 0 ≡ true
    → handed_output (printed_at_end (record { unit = unit; line = begun })) out ≡ out
none_put unit begun out e = sym (finish-none (record { unit = unit; line = begun }) out (eqb-true _ _ e)).1

pub ruleset none_begun = (none_said, none_put)
