-- In calls of bytes each T is less than 2^64, since eight bytes spell it.
use mathlib.Core.Path.{◌≡◌, refl, subst}
use mathlib.Core.List.{List, [], ◌∷◌, ◌++◌}
use Rattle.std.specs.Prelude.{Option}
use mathlib.Core.Bool.{Bool, true, false, ◌&&◌}
use Prim.Native.Nat.{ℕ, zero, suc, ◌^◌, ◌<◌, max}
use native.Mathlib.Omega.{arith}
use lib.ListN.{get_or, length}
use lib.Dec.{eqb, ltb}
use borrow.Author.Tests.{ltb-true, lt-ltb}
use Rattle.base.specs.Choice.{pick}
use Rattle.base.specs.Reply.{Reply, accepted, refused}
use Rattle.base.specs.BigEndian.{number_at}
use Rattle.base.proofs.BigEndianLaws.{number_fits}
use Rattle.esc_records.specs.Record.{record_of, read_record, known_kind, width_of, lane_fits, flag_fits}
use Rattle.esc_unit.specs.Unit.{never_opened, call_of}
use Rattle.esc_records.specs.declared.record.Record.{Record}
use Rattle.esc_records.specs.declared.record.Record.TheVariants as kind
use Rattle.esc_answers.specs.declared.answer.Answer.{Answer}
use Rattle.esc_unit.specs.declared.unit.Unit.{Unit}
use Rattle.booking.specs.History.{Seen, seen}
use Rattle.attribution.specs.Marks.{Marked, calls_of, MarkedHistory, feed_marked, run_marked, LogEntry, Log, logged, log_of, log_after}
use Rattle.attribution.specs.Clock.{latest_t}
use Rattle.base.specs.Bytes.{are_bytes}
use Rattle.base.proofs.BytesLaws.{bytes_below}
use Rattle.booking.specs.FirstNine.{of_bytes}
use Rattle.base.proofs.Both.{and_left, and_right}
use Rattle.attribution.proofs.Clock.{time-grows}

-- the T of a record, whatever its answer
module _ (a : Answer) where
  abbrev fits : Record → Bool
  fits r = ltb (seen r a).now (2 ^ 64)

  abbrev all_fit : List Record → Bool
  all_fit [] = true
  all_fit (r ∷ rs) = fits r && all_fit rs

  get-fits : (rs : List Record) (n : ℕ) → all_fit rs ≡ true → fits (get_or rs n kind.Report) ≡ true
  get-fits [] n f = refl
  get-fits (r ∷ rs) zero f = and_left (fits r) _ f
  get-fits (r ∷ rs) (suc n) f = get-fits rs n (and_right (fits r) _ f)

  record-fits : (s : List ℕ) → are_bytes s ≡ true → (seen (record_of s) a).now < 2 ^ 64
  unfolding record_of
  record-fits s b = ltb-true _ _ (simp (get-fits, time))
    where
      time : (at : ℕ) → ltb (number_at 8 s at) (2 ^ 64) ≡ true
      time at = lt-ltb _ _ (number_fits 8 s at (bytes_below s b))

module _ (kinds : Seen → Bool) where
  abbrev Wide : Log → Type 0
  Wide l = latest_t kinds l < 2 ^ 64

  wide-entry : (l : Log) (e : LogEntry) → e.seen.now < 2 ^ 64 → Wide l → Wide (e ∷ l)
  unfolding latest_t
  wide-entry l e t w = go (kinds e.seen)
    where
      go : (b : Bool) → pick b (max (latest_t kinds l) e.seen.now) (latest_t kinds l) < 2 ^ 64
      go true = omega arith
      go false = omega arith

  wide_read : (s : List ℕ) → are_bytes s ≡ true → (y : Reply Answer) (o : Option ℕ) (l : Log) → Wide l → Wide (logged (read_record s) y o l)
  unfolding read_record
  wide_read s b y o l w = go (known_kind s) (eqb (length s) (width_of (get_or s 0 0))) (lane_fits s) (flag_fits s)
    where
      answered : (y : Reply Answer) → Wide (logged (accepted (record_of s)) y o l)
      answered (refused n) = w
      answered (accepted a) = wide-entry l (record { seen = seen (record_of s) a; origin = o }) (record-fits a s b) w

      go : (known long lane flag : Bool)
          → Wide (logged (pick known (pick long (pick lane (pick flag (accepted (record_of s)) (refused 7)) (refused 6)) (refused 5)) (refused 4)) y o l)
      go true true true true = answered y
      go true true true false = w
      go true true false flag = w
      go true false lane flag = w
      go false long lane flag = w

  wide-fed : (ms : List Marked) (u : Unit) (h : MarkedHistory) → of_bytes (calls_of ms) ≡ true → Wide (log_of h) → Wide (log_of (feed_marked u h ms))
  unfolding feed_marked log_of of_bytes
  wide-fed [] u h b w = w
  wide-fed (m ∷ ms) u h b w =
      wide-fed ms (call_of u m.call.bytes m.call.room).unit _ (and_right (are_bytes m.call.bytes) _ b)
      (wide_read m.call.bytes (and_left (are_bytes m.call.bytes) _ b) (call_of u m.call.bytes m.call.room).reply m.origin (log_of h) w)

  wide-before : (later l : Log) → Wide (later ++ l) → Wide l
  wide-before [] l w = w
  wide-before (e ∷ later) l w = wide-before later l (omega (arith, time-grows kinds (later ++ l) e))

  pub wide_at : (ms : List Marked) (later l : Log) → of_bytes (calls_of ms) ≡ true → log_after ms ≡ later ++ l → latest_t kinds l < 2 ^ 64
  unfolding run_marked log_of latest_t
  wide_at ms later l b x = wide-before later l (subst Wide x (wide-fed ms never_opened [] b (omega arith)))
