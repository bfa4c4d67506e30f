-- Reading a record, by tests that need not look into the list; and the record of a kind whose bytes are as many as it has.
use Rattle.std.proofs.Common.{◌≡◌, ℕ, ◌<◌, true, eqb, ltb, leb, List, [], ◌∷◌, length, get_or, refl, arith, zero-lt-suc}
use borrow.Author.Tests.{eq-eqb, le-leb, lt-ltb}
use Rattle.base.specs.Choice.{pick}
use Rattle.base.specs.Reply.{Reply, accepted, refused}
use Rattle.esc_records.specs.Record.{width_of, lane_fits, flag_fits, record_of, read_record, last_kind}
use Rattle.esc_records.specs.Whole.{Whole}
use Rattle.esc_records.specs.declared.record.Record.{Record}
use Rattle.esc_records.proofs.LayoutLaws.{ends_at}

-- the kind at least stands in front of where the fields end
whole-some : (s : List ℕ) → Whole s → 0 < length s
whole-some s w = omega (arith, w.width, ends_at (get_or s 0 0) w.known)

-- what is read of a record whose kind and length are right
unfoldable pub whole_reply : List ℕ → Reply Record
whole_reply s = pick (lane_fits s) (pick (flag_fits s) (accepted (record_of s)) (refused 7)) (refused 6)

-- that the record is not empty, its kind, its length
pub read_tests : (s : List ℕ) → read_record s
    ≡ pick (ltb 0 (length s))
    (pick (leb (get_or s 0 0) last_kind)
    (pick (eqb (length s) (width_of (get_or s 0 0))) (whole_reply s) (refused 5))
    (refused 4))
    (refused 4)
unfolding whole_reply read_record
read_tests [] = refl
read_tests (k ∷ s) = rw (lt-ltb _ _ (zero-lt-suc (length s)))

pub whole_read : (s : List ℕ) → Whole s → read_record s ≡ whole_reply s
whole_read s w = rw (read_tests s, lt-ltb _ _ (whole-some s w), le-leb _ _ w.known, eq-eqb _ _ w.width)

pub read-accepted : (s : List ℕ) → Whole s → lane_fits s ≡ true → flag_fits s ≡ true → read_record s ≡ accepted (record_of s)
unfolding whole_reply
read-accepted s w e f = rw (whole_read s w, e, f)
