-- The parser gives a sample exactly at the frame ends: what it holds are the latest bytes since the latest cut or frame end.
use mathlib.Core.Path.{◌≡◌, refl, sym, ◌∙◌}
use mathlib.Core.List.{List, [], ◌∷◌, ◌++◌}
use Rattle.std.specs.Prelude.{Option, None, Some, is_some}
use mathlib.Core.Bool.{Bool, true, false, not, ◌&&◌}
use Prim.Native.Nat.{ℕ, zero, suc, ◌+◌, ◌-◌, ◌≤◌, ◌<◌}
use native.Mathlib.Omega.{arith}
use lib.ListN.{length, drop, length-append, length-drop}
use lib.Seq.{drop-append-le, drop-drop, drop-length}
use lib.Dec.{eqb, leb}
use borrow.Author.Tests.{le-leb, lt-leb, eqb-true, eqb-false}
use Rattle.base.specs.Choice.{pick}
use Rattle.blheli_telemetry.specs.Crc.{crc_of}
use Rattle.base.specs.Saturated.{saturated}
use Rattle.blheli_telemetry.specs.Stream.{given_after, held_after, counted_after}
use Rattle.blheli_telemetry.specs.declared.parser.ParserStats.{ParserStats}
use Rattle.base.proofs.ByCases.{below_or_not}
use Rattle.blheli_telemetry.proofs.StreamLaws.{few-held, frame-end, wrong-check}
use Rattle.booking.specs.Wire.{OnWire, byte, cut, one_more, latest, frame_at, parsed}

-- the last n of a list, if it has so many
unfoldable pub last_of : ℕ → List ℕ → Option (List ℕ)
last_of n xs = pick (leb n (length xs)) (Some (drop (length xs - n) xs)) None

last-in : (n : ℕ) (xs : List ℕ) → n ≤ length xs → last_of n xs ≡ Some (drop (length xs - n) xs)
unfolding last_of
last-in n xs h = rw (le-leb _ _ h)

last_out : (n : ℕ) (xs : List ℕ) → length xs < n → last_of n xs ≡ None
unfolding last_of
last_out n xs h = rw (lt-leb _ _ h)

last-zero : (xs : List ℕ) → last_of 0 xs ≡ Some []
last-zero xs =
    let e : length xs - 0 ≡ length xs = omega arith in
    rw (last-in 0 xs (omega arith), e, drop-length xs)

last_more : (n : ℕ) (xs : List ℕ) (b : ℕ) → last_of (suc n) (xs ++ b ∷ []) ≡ one_more None (last_of n xs) b
last_more n xs b = below_or_not (length xs) n outside inside
  where
    outside : length xs < n → last_of (suc n) (xs ++ b ∷ []) ≡ one_more None (last_of n xs) b
    outside h =
        let k : length (xs ++ b ∷ []) < suc n = simp length-append (omega arith) in
        rw (last_out (suc n) (xs ++ b ∷ []) k, last_out n xs h)

    inside : n ≤ length xs → last_of (suc n) (xs ++ b ∷ []) ≡ one_more None (last_of n xs) b
    inside h =
        let e : length (xs ++ b ∷ []) - suc n ≡ length xs - n = simp length-append (omega arith) in
        let k : suc n ≤ length (xs ++ b ∷ []) = simp length-append (omega arith) in
        let l : length xs - n ≤ length xs = omega arith in
        rw (last-in (suc n) (xs ++ b ∷ []) k, last-in n xs h, e, drop-append-le (length xs - n) xs (b ∷ []) l)

last-drop : (n : ℕ) (xs : List ℕ) → n < length xs → last_of n (drop 1 xs) ≡ last_of n xs
last-drop n xs h =
    let k : n ≤ length (drop 1 xs) = simp length-drop (omega arith) in
    let e : 1 + (length (drop 1 xs) - n) ≡ length xs - n = simp length-drop (omega arith) in
    rw (last-in n (drop 1 xs) k, last-in n xs (omega arith), drop-drop (length (drop 1 xs) - n) 1 xs, e)

-- the bytes held by a parser that saw this wire
pub record Holds (w : List OnWire) (xs : List ℕ) : Type 0 where
  pub short : length xs ≤ 9
  pub last : (n : ℕ) → n ≤ 9 → latest w n ≡ last_of n xs

pub holds-nothing : Holds [] []
unfolding latest
holds-nothing = record { short = omega arith; last = λ n h. go n }
  where
    go : (n : ℕ) → latest [] n ≡ last_of n []
    go zero = sym (last-zero [])
    go (suc n) = sym (last_out (suc n) [] (omega arith))

pub after-cut : (w : List OnWire) → Holds (cut ∷ w) []
unfolding latest
after-cut w = record { short = omega arith; last = λ n h. go n }
  where
    go : (n : ℕ) → latest (cut ∷ w) n ≡ last_of n []
    go zero = sym (last-zero [])
    go (suc n) = sym (last_out (suc n) [] (omega arith))

-- a count that rises, saturating
abbrev pub rises_if : Bool → ℕ → ℕ
rises_if true n = saturated n
rises_if false n = n

abbrev pub stats_with : Bool → Bool → ParserStats → ParserStats
stats_with good wrong s =
    record {
      valid_frames = rises_if good s.valid_frames;
      crc_failures = rises_if wrong s.crc_failures;
      discarded_bytes = rises_if wrong s.discarded_bytes;
    }

pub record Byted (w : List OnWire) (xs : List ℕ) (b : ℕ) : Type 0 where
  pub gives : given_after xs b ≡ parsed (frame_at w b)
  pub holds : Holds (byte b ∷ w) (held_after xs b)
  pub counts : (s : ParserStats) → counted_after xs b s ≡ stats_with (is_some (frame_at w b)) (is_some (latest w 9) && not (is_some (frame_at w b))) s

module _ (w : List OnWire) (xs : List ℕ) (b : ℕ) (i : Holds w xs) where
  all-nine : length xs ≡ 9 → latest w 9 ≡ Some xs
  all-nine h =
      let e : length xs - 9 ≡ 0 = omega arith in
      i.last 9 (omega arith) ∙ last-in 9 xs (omega arith) ∙ rw e

  too_few : length xs < 9 → latest w 9 ≡ None
  too_few h = i.last 9 (omega arith) ∙ last_out 9 xs h

  few : length xs < 9 → Byted w xs b
  unfolding frame_at latest
  few h =
      let k = few-held xs b h in
      record {
        gives = rw (k.gives, too_few h);
        holds = rw k.holds (record { short = simp length-append (omega arith); last = go });
        counts = λ s. rw (k.counts s, too_few h);
      }
    where
      go : (n : ℕ) → n ≤ 9 → latest (byte b ∷ w) n ≡ last_of n (xs ++ b ∷ [])
      go zero l = sym (last-zero (xs ++ b ∷ []))
      go (suc n) l = rw (too_few h, last_more n xs b, i.last n (omega arith))

  good : length xs ≡ 9 → eqb (crc_of xs) b ≡ true → Byted w xs b
  unfolding frame_at latest
  good h c =
      let k = frame-end xs b h (eqb-true _ _ c) in
      record {
        gives = rw (k.gives, all-nine h, c);
        holds = rw k.holds (record { short = omega arith; last = go });
        counts = λ s. rw (k.counts s, all-nine h, c);
      }
    where
      go : (n : ℕ) → n ≤ 9 → latest (byte b ∷ w) n ≡ last_of n []
      go zero l = sym (last-zero [])
      go (suc n) l = rw (all-nine h, c, last_out (suc n) [] (omega arith))

  wrong : length xs ≡ 9 → eqb (crc_of xs) b ≡ false → Byted w xs b
  unfolding frame_at latest
  wrong h c =
      let k = wrong-check xs b h (eqb-false _ _ c) in
      record {
        gives = rw (k.gives, all-nine h, c);
        holds = rw k.holds (record { short = simp (length-drop, length-append) (omega arith); last = go });
        counts = λ s. rw (k.counts s, all-nine h, c);
      }
    where
      go : (n : ℕ) → n ≤ 9 → latest (byte b ∷ w) n ≡ last_of n (drop 1 (xs ++ b ∷ []))
      go zero l = sym (last-zero (drop 1 (xs ++ b ∷ [])))
      go (suc n) l =
          let k : suc n < length (xs ++ b ∷ []) = simp length-append (omega arith) in
          rw (all-nine h, c, last-drop (suc n) (xs ++ b ∷ []) k, last_more n xs b, i.last n (omega arith))

  pub byted : Byted w xs b
  byted = below_or_not (length xs) 9 few (λ h. let n : length xs ≡ 9 = omega (arith, i.short) in go n (eqb (crc_of xs) b) refl)
    where
      go : length xs ≡ 9 → (c : Bool) → eqb (crc_of xs) b ≡ c → Byted w xs b
      go n true c = good n c
      go n false c = wrong n c
