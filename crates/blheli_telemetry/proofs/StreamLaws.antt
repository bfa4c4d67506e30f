-- What a parser gives, and what it then holds, goes by the bytes that it holds alone: not by stale bytes, nor by its counts.
use Rattle.std.specs.Prelude.{Option, Some, None}
use mathlib.Core.Path.{◌≡◌, refl, ap, sym, ◌∙◌}
use mathlib.Core.List.{List, [], ◌∷◌, ◌++◌}
use Prim.Native.Nat.{ℕ, suc, ◌+◌, ◌<◌, ◌≤◌, min}
use native.Mathlib.Omega.{arith}
use lib.ListN.{length, get_or, set, take, drop, length-set, length-take, length-drop, length-append, drop_of_length-le}
use lib.Seq.{take-suc-set, set_split, take_all, take_at, get_or_at}
use borrow.Author.Tests.{lt-ltb, le-ltb}
use Rattle.base.specs.Reply.{Reply, accepted, refused}
use Rattle.blheli_telemetry.specs.Crc.{crc_of}
use Rattle.blheli_telemetry.specs.Frame.{telemetry_of, read_frame}
use Rattle.blheli_telemetry.specs.Parser.{counted_good, counted_bad, shifted_down, completed, push_of, new_parser, reset_of}
use Rattle.blheli_telemetry.specs.Stream.{held, sample_given, held_on, tallied, given_after, held_after, counted_after, parsed_from, parsed_by}
use Rattle.blheli_telemetry.specs.declared.frame.EscTelemetry.{EscTelemetry}
use Rattle.blheli_telemetry.specs.declared.parser.ParserStats.{ParserStats}
use Rattle.blheli_telemetry.specs.declared.parser.StreamParser.{StreamParser}
use Rattle.base.proofs.ByCases.{below_or_not}
use Rattle.blheli_telemetry.proofs.FrameLaws.{read-good, read-bad}
use Rattle.blheli_telemetry.proofs.ParserLaws.{push-few, push-tenth}

-- the array with the tenth byte
tenth : (xs : List ℕ) (b : ℕ) → length xs ≡ 10 → set xs 9 b ≡ take 9 xs ++ b ∷ []
tenth xs b l =
    let h : 9 < length xs = omega arith in
    let z : length xs ≤ 10 = omega arith in
    set_split xs 9 b h ∙ ap (λ (r : List ℕ). take 9 xs ++ b ∷ r) (drop_of_length-le xs z)

-- what is left in front when the oldest byte has gone
shifted-front : (f : List ℕ) → length f ≡ 10 → take 9 (shifted_down f) ≡ drop 1 f
unfolding shifted_down
shifted-front f l =
    let n : length (drop 1 f) ≡ 9 = simp length-drop (omega arith) in
    let m : length (drop 1 f) ≤ 9 = omega arith in
    ap (λ (r : List ℕ). take 9 (r ++ drop 9 f)) (take_all 9 (drop 1 f) m) ∙ take_at (drop 1 f) (drop 9 f) 9 n

completed-held : (f : List ℕ) (s : ParserStats) (r : Reply EscTelemetry) → length f ≡ 10 → held (completed f s r).parser ≡ held_on f r
completed-held f s (accepted t) l = refl
completed-held f s (refused n) l = shifted-front f l

completed-given : (f : List ℕ) (s : ParserStats) (r : Reply EscTelemetry) → (completed f s r).parsed ≡ sample_given r
completed-given f s (accepted t) = refl
completed-given f s (refused n) = refl

completed-counted : (f : List ℕ) (s : ParserStats) (r : Reply EscTelemetry) → (completed f s r).parser.stats ≡ tallied r s
completed-counted f s (accepted t) = refl
completed-counted f s (refused n) = refl

completed-ten : (f : List ℕ) (s : ParserStats) (r : Reply EscTelemetry) → length f ≡ 10 → length (completed f s r).parser.bytes ≡ 10
unfolding shifted_down
completed-ten f s (accepted t) l = l
completed-ten f s (refused n) l = simp (length-append, length-take, length-drop) (omega arith)

-- every parser, however it came about: an array of ten is all that is asked
module _ (p : StreamParser) (b : ℕ) (ten : length p.bytes ≡ 10) where
  few : p.len < 9 → held p ≡ take p.len p.bytes
  few h = let e : min p.len 9 ≡ p.len = omega arith in rw e

  nine : 9 ≤ p.len → held p ≡ take 9 p.bytes
  nine h = let e : min p.len 9 ≡ 9 = omega arith in rw e

  few-length : p.len < 9 → length (held p) < 9
  few-length h = simp length-take (omega arith)

  nine-length : 9 ≤ p.len → 9 ≤ length (held p)
  nine-length h = simp length-take (omega arith)

  filled : 9 ≤ p.len → set p.bytes 9 b ≡ held p ++ b ∷ []
  filled h = tenth p.bytes b ten ∙ rw (nine h)

  pub given-by-held : (push_of p b).parsed ≡ given_after (held p) b
  unfolding given_after
  given-by-held =
      below_or_not p.len 9
      (λ h. rw (push-few p b (lt-ltb _ _ h), lt-ltb _ _ (few-length h)))
      (λ h. rw (push-tenth p b (le-ltb _ _ h), le-ltb _ _ (nine-length h), filled h) (completed-given (held p ++ b ∷ []) p.stats (read_frame (held p
      ++ b ∷ []))))

  pub held-by-held : held (push_of p b).parser ≡ held_after (held p) b
  unfolding held_after
  held-by-held =
      below_or_not p.len 9
      (λ h.
      let e : min (p.len + 1) 9 ≡ suc p.len = omega arith in
      let i : p.len < length p.bytes = omega arith in
      rw (push-few p b (lt-ltb _ _ h), lt-ltb _ _ (few-length h), few h, e) (take-suc-set p.bytes p.len b i))
      (λ h.
      let l : length (held p ++ b ∷ []) ≡ 10 = ap length (sym (filled h)) ∙ simp length-set ten in
      rw (push-tenth p b (le-ltb _ _ h), le-ltb _ _ (nine-length h), filled h)
      (completed-held (held p ++ b ∷ []) p.stats (read_frame (held p ++ b ∷ [])) l))

  pub counted-by-held : (push_of p b).parser.stats ≡ counted_after (held p) b p.stats
  unfolding counted_after
  counted-by-held =
      below_or_not p.len 9
      (λ h. rw (push-few p b (lt-ltb _ _ h), lt-ltb _ _ (few-length h)))
      (λ h.
      rw (push-tenth p b (le-ltb _ _ h), le-ltb _ _ (nine-length h), filled h)
      (completed-counted (held p ++ b ∷ []) p.stats (read_frame (held p ++ b ∷ []))))

  pub keeps-ten : length (push_of p b).parser.bytes ≡ 10
  keeps-ten =
      below_or_not p.len 9
      (λ h. rw (push-few p b (lt-ltb _ _ h)) (simp length-set ten))
      (λ h. rw (push-tenth p b (le-ltb _ _ h)) (completed-ten (set p.bytes 9 b) p.stats (read_frame (set p.bytes 9 b)) (simp length-set ten)))

-- what a byte brings out, leaves and counts
pub record Way (xs : List ℕ) (b : ℕ) (g : Option EscTelemetry) (h : List ℕ) (c : ParserStats → ParserStats) : Type 0 where
  pub gives : given_after xs b ≡ g
  pub holds : held_after xs b ≡ h
  pub counts : (s : ParserStats) → counted_after xs b s ≡ c s

-- the three ways: few are held, the tenth is the CRC of the nine, or it is not
module _ (xs : List ℕ) (b : ℕ) where
  pub few-held : length xs < 9 → Way xs b None (xs ++ b ∷ []) (λ s. s)
  unfolding given_after held_after counted_after
  few-held h = record { gives = rw (lt-ltb _ _ h); holds = rw (lt-ltb _ _ h); counts = λ s. rw (lt-ltb _ _ h) }

  module _ (nine-held : length xs ≡ 9) where
    ten-bytes : length (xs ++ b ∷ []) ≡ 10
    ten-bytes = simp length-append (omega arith)

    checks : crc_of (take 9 (xs ++ b ∷ [])) ≡ crc_of xs
    checks = ap crc_of (take_at xs (b ∷ []) 9 nine-held)

    tenth-byte : get_or (xs ++ b ∷ []) 9 0 ≡ b
    tenth-byte = get_or_at xs b [] 0 9 nine-held

    full : 9 ≤ length xs
    full = omega arith

    pub frame-end : crc_of xs ≡ b → Way xs b (Some (telemetry_of (xs ++ b ∷ []))) [] counted_good
    unfolding given_after held_after counted_after
    frame-end good =
        let r : read_frame (xs ++ b ∷ []) ≡ accepted (telemetry_of (xs ++ b ∷ [])) =
        read-good (xs ++ b ∷ []) ten-bytes (checks ∙ good ∙ sym tenth-byte) in
        record { gives = rw (le-ltb _ _ full, r); holds = rw (le-ltb _ _ full, r); counts = λ s. rw (le-ltb _ _ full, r) }

    pub wrong-check : (crc_of xs ≡ b → ⊥) → Way xs b None (drop 1 (xs ++ b ∷ [])) counted_bad
    unfolding given_after held_after counted_after
    wrong-check bad =
        let r : read_frame (xs ++ b ∷ []) ≡ refused 10 =
        read-bad (xs ++ b ∷ []) ten-bytes (λ e. bad (sym checks ∙ e ∙ tenth-byte)) in
        record { gives = rw (le-ltb _ _ full, r); holds = rw (le-ltb _ _ full, r); counts = λ s. rw (le-ltb _ _ full, r) }

-- over a stream of bytes the parser's own calls give what the bytes held give
pub parsed-by-held : (p : StreamParser) (bs : List ℕ) → length p.bytes ≡ 10 → parsed_by p bs ≡ parsed_from (held p) bs
unfolding parsed_by parsed_from
parsed-by-held p [] ten = refl
parsed-by-held p (b ∷ bs) ten =
    rw (given-by-held p b ten, parsed-by-held (push_of p b).parser bs (keeps-ten p b ten), held-by-held p b ten)

-- two parsers that hold the same bytes give the same at every byte of every stream
pub parsed-alike : (p q : StreamParser) → length p.bytes ≡ 10 → length q.bytes ≡ 10 → held p ≡ held q
    → (bs : List ℕ) → parsed_by p bs ≡ parsed_by q bs
parsed-alike p q ten ten' same bs = parsed-by-held p bs ten ∙ ap (λ (xs : List ℕ). parsed_from xs bs) same ∙ sym (parsed-by-held q bs ten')

-- a new parser and one that was reset hold nothing
pub new-holds : held new_parser ≡ []
new-holds = refl

pub reset-holds : (p : StreamParser) → held (reset_of p) ≡ []
reset-holds p = refl
