-- Printing bytes as a line: its length, and a byte's two characters more.
use Rattle.std.proofs.Common.{◌≡◌, ℕ, ◌+◌, ◌-◌, ◌*◌, ◌/◌, ◌%◌, ◌≤◌, ◌<◌, List, [], ◌∷◌, ◌++◌, length, get_or, take, refl, ap}
use Rattle.std.proofs.Common.{arith, add-one, take-suc, length-append}
use lib.Seq.{take_all}
use Rattle.base.specs.Put.{Put}
use Rattle.base.proofs.PutLaws.{put_then, put-none}
use Rattle.hex_lines.specs.Digit.{glyph_of}
use Rattle.hex_lines.specs.Line.{hex_of, printed_line}

pub hex-length : (bytes : List ℕ) → length (hex_of bytes) ≡ 2 * length bytes
unfolding hex_of
hex-length [] = refl
hex-length (b ∷ bytes) = omega (arith, hex-length bytes)

pub printed-length : (bytes : List ℕ) → length (printed_line bytes) ≡ 2 * length bytes + 1
unfolding printed_line
printed-length bytes = omega (arith, length-append (hex_of bytes) (0x0a ∷ []), hex-length bytes)

hex-append : (a b : List ℕ) → hex_of (a ++ b) ≡ hex_of a ++ hex_of b
unfolding hex_of
hex-append [] b = refl
hex-append (x ∷ a) b = ap (λ (t : List ℕ). glyph_of (x / 16) ∷ glyph_of (x % 16) ∷ t) (hex-append a b)

-- the characters of the first i bytes are put from a place on, in an output that has room for the rest of the line
pub record Shown (bytes out₀ : List ℕ) (at i end : ℕ) (out : List ℕ) : Type 0 where
  pub room : end + (2 * (length bytes - i) + 1) ≤ length out₀
  pub put : Put at (hex_of (take i bytes)) out₀ out end

pub shown_none : (bytes out₀ : List ℕ) (at : ℕ) → at + (2 * length bytes + 1) ≤ length out₀ → Shown bytes out₀ at 0 at out₀
unfolding hex_of
shown_none bytes out₀ at room = record { room = omega arith; put = put-none at out₀ }

module _ {bytes out₀ : List ℕ} {at i end : ℕ} {out : List ℕ} (k : Shown bytes out₀ at i end out) where
  -- a byte more
  pub shown_more : (end' : ℕ) (out' : List ℕ) (x y : ℕ) → i < length bytes → x ≡ glyph_of (get_or bytes i 0 / 16) → y ≡ glyph_of (get_or bytes i 0 % 16)
      → Put end (x ∷ y ∷ []) out out' end' → Shown bytes out₀ at (i + 1) end' out'
  unfolding hex_of
  shown_more end' out' x y h ex ey p =
      let more : hex_of (take (i + 1) bytes) ≡ hex_of (take i bytes) ++ x ∷ y ∷ [] =
      rw (add-one i, take-suc bytes i 0 h, ex, ey) (hex-append (take i bytes) (get_or bytes i 0 ∷ [])) in
      record {
        room = omega (arith, k.room, p.place);
        put = rw more (put_then (omega (arith, k.room, k.put.place)) k.put p);
      }

  -- the line's end
  pub shown_all : (end' : ℕ) (out' : List ℕ) → length bytes ≤ i → Put end (0x0a ∷ []) out out' end' → Put at (printed_line bytes) out₀ out' end'
  unfolding printed_line
  shown_all end' out' h p =
      let all : Put at (hex_of bytes) out₀ out end = rw (take_all i bytes h) at k.put in
      put_then (omega (arith, k.room, all.place)) all p
