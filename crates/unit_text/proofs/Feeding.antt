-- What feeding a chunk keeps from line to line: the stream, the output and the count are those of the characters passed.
use mathlib.Core.Path.{◌≡◌, refl, sym, ap, ◌∙◌}
use mathlib.Core.Bool.{Bool}
use mathlib.Core.List.{List, [], ◌∷◌, ◌++◌, append-nil, append_assoc}
use Prim.Native.Nat.{ℕ, ◌+◌, ◌-◌, ◌≤◌, ◌<◌}
use native.Mathlib.Omega.{arith}
use native.Mathlib.Nat.{add-zero}
use lib.ListN.{length, take, drop, length-append, length-drop, length-take, take-append-drop, drop_of_length-le}
use lib.Seq.{take_all, take-add, take_at, drop-drop, length-take-le}
use Rattle.base.specs.BigEndian.{overwrite}
use Rattle.base.proofs.BigEndianLaws.{overwrite-append}
use Rattle.esc_unit.specs.Unit.{Replied}
use Rattle.esc_answers.specs.Answer.{reply_bytes}
use Rattle.esc_unit.specs.declared.unit.Unit.{Unit}
use Rattle.hex_lines.specs.Line.{line_end, read_line, printed_line, most_held}
use Rattle.unit_text.specs.Session.{answer_on, answer_line, unit_after, line_text}
use Rattle.unit_text.specs.Stream.{Streamed, after, printed, taken, feed_of, fed_output, longest_line}
use Rattle.hex_lines.specs.NextLine.{first_line}
use Rattle.unit_text.specs.Answering.{Answers, LinePut}
use Rattle.record_lines.specs.NextRecord.{AdmittedEnded}
use Rattle.record_lines.specs.declared.next_record.EndedRecord.{EndedRecord}
use Rattle.base.proofs.PutLaws.{overwrite-none}
use Rattle.hex_lines.proofs.Unended.{Unended}
use Rattle.hex_lines.proofs.FirstLine.{first-unended, first-split}
use Rattle.unit_text.proofs.StreamLaws.{after-append, printed-append, line-length}
use Rattle.unit_text.proofs.LineTurn.{after-held, after_line, printed-past, printed-line, taken-past, taken-line, taken-stop}

pub record Feeding (s : Streamed) (chunk out₀ : List ℕ) (unit : Unit) (begun out : List ℕ) (used written : ℕ) : Type 0 where
  pub within : used ≤ length chunk
  pub short : length begun ≤ most_held
  pub long : length out ≡ length out₀
  pub stream : record { unit = unit; line = begun } ≡ after s (take used chunk)
  pub count : written ≡ length (printed s (take used chunk))
  pub fits : written ≤ length out₀
  pub text : out ≡ overwrite 0 (printed s (take used chunk)) out₀
  pub rest : taken s (length out₀) chunk ≡ used + taken (after s (take used chunk)) (length out₀ - written) (drop used chunk)

-- at first
pub feeding-none : (unit : Unit) (begun chunk out : List ℕ) → length begun ≤ most_held
    → Feeding (record { unit = unit; line = begun }) chunk out unit begun out 0 0
unfolding after printed
feeding-none unit begun chunk out h =
    let all : length out - 0 ≡ length out = omega arith in
    record {
      within = omega arith;
      short = h;
      long = refl;
      stream = refl;
      count = refl;
      fits = omega arith;
      text = sym (overwrite-none 0 out);
      rest = rw all (omega arith);
    }

-- the rest of a chunk, as a part of it
pub part_left : (chunk : List ℕ) (used : ℕ) → take (length chunk - used) (drop used chunk) ≡ drop used chunk
part_left chunk used = take_all (length chunk - used) (drop used chunk) (omega (arith, length-drop used chunk))

-- what a return hands back
module _ (s : Streamed) (chunk out₀ : List ℕ) (t : Streamed) (out : List ℕ) (used written : ℕ) where
  pub fed_by : taken s (length out₀) chunk ≡ used → used ≤ length chunk → t ≡ after s (take used chunk)
      → written ≡ length (printed s (take used chunk)) → out ≡ overwrite 0 (printed s (take used chunk)) out₀
      → (record { stream = t; used = used; written = written } ≡ feed_of s chunk (length out₀)) × (out ≡ fed_output s chunk out₀)
  unfolding feed_of fed_output
  fed_by e h t≡ w≡ o≡ = (rw (e, t≡, w≡, length-take-le used chunk h), rw e o≡)

module _ {s : Streamed} {chunk out₀ : List ℕ} {unit : Unit} {begun out : List ℕ} {used written : ℕ}
    (k : Feeding s chunk out₀ unit begun out used written) where
  abbrev left : List ℕ
  left = drop used chunk

  -- a line and its LF are within the chunk
  pub goes_on : (next : ℕ) → length (first_line left) < length left → next ≡ length (first_line left) + 1 → used + next ≤ length chunk
  goes_on next h e = omega (arith, length-drop used chunk, k.within)

  -- no room for a line more, or nothing left
  pub fed-stop : length out₀ - written < longest_line
      → (record { stream = record { unit = unit; line = begun }; used = used; written = written } ≡ feed_of s chunk (length out₀))
      × (out ≡ fed_output s chunk out₀)
  fed-stop h =
      let none : taken (after s (take used chunk)) (length out₀ - written) left ≡ 0 =
      taken-stop (after s (take used chunk)) (length out₀ - written) left (omega arith) in
      fed_by s chunk out₀ _ out used written (omega (arith, k.rest)) k.within k.stream k.count k.text

  pub fed-end : length chunk ≤ used
      → (record { stream = record { unit = unit; line = begun }; used = used; written = written } ≡ feed_of s chunk (length out₀))
      × (out ≡ fed_output s chunk out₀)
  unfolding taken
  fed-end h =
      let e : left ≡ [] = drop_of_length-le chunk h in
      let none : taken s (length out₀) chunk ≡ used = k.rest ∙ rw e (add-zero used) in
      fed_by s chunk out₀ _ out used written none k.within k.stream k.count k.text

  module _ (roomy : longest_line ≤ length out₀ - written) where
    -- the chunk ends before the line does: all of it is used
    pub feeding-open : (begun' : List ℕ) → first_line left ≡ left → begun' ≡ take most_held (begun ++ left)
        → Feeding s chunk out₀ unit begun' out (length chunk) written
    unfolding taken
    feeding-open begun' whole holds =
        let plain : Unended left = rw whole at (first-unended left) in
        let all : take (length chunk) chunk ≡ take used chunk ++ left = take_all (length chunk) chunk (omega arith) ∙ sym (take-append-drop used chunk) in
        let s' : record { unit = unit; line = begun' } ≡ after s (take (length chunk) chunk) =
        rw (all, after-append s (take used chunk) left, ← k.stream)
        (ap (λ (l : List ℕ). record { unit = unit; line = l }) holds ∙ sym (after-held unit begun left k.short plain)) in
        let p : printed s (take (length chunk) chunk) ≡ printed s (take used chunk) =
        rw (all, printed-append s (take used chunk) left, printed-past (after s (take used chunk)) left plain) (append-nil (printed s (take used chunk))) in
        let t : taken (after s (take used chunk)) (length out₀ - written) left ≡ length left =
        ap (taken (after s (take used chunk)) (length out₀ - written)) (sym (append-nil left))
        ∙ taken-past (after s (take used chunk)) (length out₀ - written) left [] roomy plain
        ∙ add-zero (length left) in
        let none : drop (length chunk) chunk ≡ [] = drop_of_length-le chunk {i = length chunk} (omega arith) in
        record {
          within = omega arith;
          short = rw holds (simp length-take (omega arith));
          long = k.long;
          stream = s';
          count = k.count ∙ ap length (sym p);
          fits = k.fits;
          text = rw p k.text;
          rest = rw none (omega (arith, k.rest, t, length-drop used chunk, k.within));
        }

    -- a line, answered
    module _ (next : ℕ) (ended : length (first_line left) < length left) (behind : next ≡ length (first_line left) + 1)
        (unit' : Unit) (reply : List ℕ) (e : Answers unit (read_line (begun ++ first_line left)) unit' reply)
        (written' : ℕ) (out' : List ℕ) (p : LinePut reply written out written' out') where
      abbrev more : List ℕ
      more = first_line left

      answers : answer_on unit (read_line (begun ++ more)) ≡ answer_line unit (begun ++ more)
      unfolding answer_line
      answers = refl

      said : printed_line reply ≡ line_text unit (begun ++ more)
      unfolding line_text
      said = ap printed_line e.bytes ∙ ap (λ (x : Replied). printed_line (reply_bytes x.reply)) answers

      unit-after : unit' ≡ unit_after unit (begun ++ more)
      unit-after = e.unit ∙ ap (λ (x : Replied). x.unit) answers

      -- how far the line goes
      further : take (used + next) chunk ≡ take used chunk ++ (more ++ line_end ∷ [])
      further =
          take-add used next chunk
          ∙ ap (λ (l : List ℕ). take used chunk ++ l)
          (ap (take next) (first-split left (ended) ∙ sym (append_assoc more (line_end ∷ []) (drop (length more + 1) left)))
          ∙ take_at (more ++ line_end ∷ []) (drop (length more + 1) left) next (length-append more (line_end ∷ []) ∙ sym (behind)))

      stream-after : record { unit = unit'; line = [] } ≡ after s (take (used + next) chunk)
      stream-after =
          rw (further, after-append s (take used chunk) (more ++ line_end ∷ []), ← k.stream)
          (rw unit-after (sym (after_line unit begun more k.short (first-unended left))))

      printed-after : printed s (take (used + next) chunk) ≡ printed s (take used chunk) ++ line_text unit (begun ++ more)
      printed-after =
          rw (further, printed-append s (take used chunk) (more ++ line_end ∷ []), ← k.stream)
          (ap (λ (l : List ℕ). printed s (take used chunk) ++ l) (printed-line unit begun more k.short (first-unended left)))

      next_place : written' ≡ written + length (line_text unit (begun ++ more))
      next_place = p.next ∙ ap (λ (l : List ℕ). written + length l) said

      room_after : written' ≤ length out₀
      room_after = omega (arith, next_place, line-length unit (begun ++ more))

      taken-after : taken (after s (take used chunk)) (length out₀ - written) left
          ≡ next + taken (after s (take (used + next) chunk)) (length out₀ - written') (drop (used + next) chunk)
      taken-after =
          let rest : drop (length more + 1) left ≡ drop (used + next) chunk = drop-drop (length more + 1) used chunk
          ∙ ap (λ (n : ℕ). drop (used + n) chunk) (sym (behind)) in
          let room : length out₀ - written - length (line_text unit (begun ++ more)) ≡ length out₀ - written' = omega (arith, next_place) in
          rw (← k.stream, ← stream-after, unit-after)
          (ap (taken (record { unit = unit; line = begun }) (length out₀ - written)) (first-split left (ended))
          ∙ taken-line unit begun more k.short (first-unended left) (length out₀ - written) (drop (length more + 1) left) roomy
          ∙ rw (rest, room) (omega (arith, behind)))

      pub feeding-line : length out' ≡ length out → Feeding s chunk out₀ unit' [] out' (used + next) written'
      feeding-line o =
          record {
            within = goes_on next (ended) (behind);
            short = omega arith;
            long = o ∙ k.long;
            stream = stream-after;
            count = rw (printed-after, length-append) (omega (arith, next_place, k.count));
            fits = room_after;
            text =
                rw printed-after
                (p.text
                ∙ rw (said, k.text)
                (overwrite-append 0 written (printed s (take used chunk)) (line_text unit (begun ++ more)) out₀ (omega (arith, k.count))
                (omega (arith, next_place, room_after))));
            rest = omega (arith, k.rest, taken-after);
          }

-- a line that was read, answered and printed
pub feeding-record : {s : Streamed} {chunk out₀ : List ℕ} {unit : Unit} {begun out : List ℕ} {used written : ℕ} {opened : Bool}
    {ended : EndedRecord} {unit' : Unit} {said : List ℕ} {written' : ℕ} {out' : List ℕ}
    → Feeding s chunk out₀ unit begun out used written → longest_line ≤ length out₀ - written
    → AdmittedEnded opened begun (drop used chunk) ended
    → Answers unit (read_line (begun ++ first_line (drop used chunk))) unit' said → LinePut said written out written' out'
    → length out' ≡ length out
    → Feeding s chunk out₀ unit' [] out' (used + ended.behind) written'
feeding-record k roomy ended answers printed kept =
    feeding-line k roomy _ ended.ends ended.behind _ _ answers _ _ printed kept
