-- What is known while a request is open: it is the latest granted, all before it have sent what they had to send, and the bytes that came
-- in since are its own. So the ten of a frame among them are all that it sends.
use mathlib.Core.Path.{◌≡◌, refl, sym, ◌∙◌, ap, subst}
use mathlib.Core.List.{List, [], ◌∷◌, ◌++◌, append_assoc, append-nil, map, map-append, map-map}
use Rattle.std.specs.Prelude.{None, Some}
use mathlib.Core.Bool.{false}
use Prim.Native.Nat.{ℕ, ◌+◌, ◌≤◌, ◌<◌}
use native.Mathlib.Omega.{arith}
use lib.ListN.{length, length-append, length-map}
use borrow.Author.Tests.{eq-eqb}
use Rattle.blheli_telemetry.specs.Crc.{crc_of}
use Rattle.blheli_telemetry.specs.Frame.{telemetry_of}
use Rattle.base.proofs.ByCases.{below_or_not}
use Rattle.esc_lanes.specs.declared.request.EscActuatorRequest.{EscActuatorRequest}
use Rattle.booking.specs.History.{Byte}
use Rattle.booking.specs.Wire.{Frame}
use Rattle.booking.specs.Booking.{booked}
use Rattle.attribution.specs.Marks.{LogEntry, Log}
use Rattle.attribution.specs.Origin.{requests, sent_by, Arrival, sent_as}
use Rattle.attribution.specs.Since.{taken_since, values_of, all}
use Rattle.attribution.specs.Attributed.{values, SentFrame, CameFrom}
use Rattle.attribution.proofs.Since.{requests-keep, since-same, since-more, taken-before}
use Rattle.attribution.proofs.Within.{ReadFrom}
use Rattle.attribution.proofs.Spent.{Spent, spent-keeps, Origin}

-- the bytes since the latest 02 are request k's, and with them it has sent at most ten
pub record Own (l : Log) (k : ℕ) : Type 0 where
  pub bytes : List Byte
  pub since : taken_since l ≡ sent_as k bytes
  pub before : List Byte
  pub sent : sent_by k l ≡ before ++ bytes
  pub few : 0 < length bytes → length (sent_by k l) ≤ 10

pub record Asked (l : Log) (q : EscActuatorRequest) : Type 0 where
  pub earlier : List EscActuatorRequest
  pub newest : requests l ≡ q ∷ earlier
  pub spent : Spent l (length earlier)
  pub own : Own l (length earlier)

abbrev bytes_in : List Arrival → List Byte
bytes_in ts = map (λ (t : Arrival). t.byte) ts

as-sent : (k : ℕ) (bs : List Byte) → bytes_in (sent_as k bs) ≡ bs
as-sent k [] = refl
as-sent k (b ∷ bs) = ap (λ (s : List Byte). b ∷ s) (as-sent k bs)

values-in : (ts : List Arrival) → values_of ts ≡ values (bytes_in ts)
values-in ts = sym (map-map (λ (b : Byte). b.value) (λ (t : Arrival). t.byte) ts)

no_more : {A : Type 0} (s : List A) → length s ≡ 0 → s ≡ []
no_more [] e = refl
no_more (a ∷ s) e = absurd (omega arith)

-- a frame among them
module _ (l : Log) (k : ℕ) (o : Own l k) (f : Frame) (r : ReadFrom (taken_since l) f) where
  own-place : sent_as k o.bytes ≡ r.row.before ++ (all r.ten ++ r.row.after)
  own-place = sym o.since ∙ r.row.place

  own-long : length o.bytes ≡ length r.row.before + (10 + length r.row.after)
  own-long = sym (length-map o.bytes _) ∙ ap length own-place ∙ simp length-append (omega (arith, r.ten.count))

  sent-long : length (sent_by k l) ≡ length o.before + length o.bytes
  sent-long = ap length o.sent ∙ length-append o.before o.bytes

  pub ten-sent : 10 ≤ length (sent_by k l)
  ten-sent = omega (arith, own-long, sent-long)

  -- it is all that was sent, and nothing came in after it
  kept_more : bytes_in (all r.ten) ≡ o.bytes
  kept_more =
      let few : length (sent_by k l) ≤ 10 = o.few (omega (arith, own-long)) in
      let first = no_more r.row.before (omega (arith, own-long, sent-long)) in
      let last = no_more r.row.after (omega (arith, own-long, sent-long)) in
      let same : sent_as k o.bytes ≡ all r.ten = own-place ∙ rw (first, last) (append-nil (all r.ten)) in
      ap bytes_in (sym same) ∙ as-sent k o.bytes

  sent-frame : SentFrame l k
  sent-frame =
      let few : length (sent_by k l) ≤ 10 = o.few (omega (arith, own-long)) in
      let t = r.ten in
      let ten : o.bytes ≡ bytes_in t.nine ++ t.tenth.byte ∷ [] = sym kept_more ∙ map-append _ t.nine (t.tenth ∷ []) in
      let older = taken-before l in
      record {
        nine = bytes_in t.nine;
        tenth = t.tenth.byte;
        count = length-map t.nine _ ∙ t.count;
        checks = t.checks ∙ ap crc_of (values-in t.nine);
        sent = o.sent ∙ rw (no_more o.before (omega (arith, own-long, sent-long))) ten;
        others = older.others;
        newest = older.whole ∙ ap (λ (s : List Arrival). older.others ++ s) (o.since ∙ ap (sent_as k) ten);
      }

pub came : (l : Log) (q : EscActuatorRequest) (f : Frame) → Asked l q → ReadFrom (taken_since l) f → CameFrom l (booked q f)
unfolding sent-frame
came l q f a r =
    record {
      earlier = a.earlier;
      latest = a.newest;
      frame = sent-frame l (length a.earlier) a.own f r;
      says = ap telemetry_of (r.bytes ∙ values-in (all r.ten) ∙ ap values (map-append _ r.ten.nine (r.ten.tenth ∷ [])));
      when = r.when;
    }

-- with its frame, nothing is left to send
pub all-spent : (l : Log) (q : EscActuatorRequest) (f : Frame) → Asked l q → ReadFrom (taken_since l) f → Spent l (length (requests l))
all-spent l q f a r k i c o = below_or_not k (length a.earlier) (λ b. a.spent k b c o) (λ b. own (omega (arith, ap length a.newest)))
  where
    own : k ≡ length a.earlier → 10 ≤ length (sent_by k l)
    own z = rw z (ten-sent l (length a.earlier) a.own f r)

module _ (l : Log) (e : LogEntry) (g : e.seen.requests.granted ≡ None) (o : e.seen.opening ≡ None) (r : e.seen.requests.recovered ≡ false)
    (q : EscActuatorRequest) (a : Asked l q) where
  abbrev number : ℕ
  number = length a.earlier

  still-asked : Own (e ∷ l) number → Asked (e ∷ l) q
  still-asked i = record { earlier = a.earlier; newest = requests-keep l e g ∙ a.newest; spent = spent-keeps l e o r number a.spent; own = i }

  -- without a byte
  pub asked-same : e.seen.wire.byte ≡ None → Asked (e ∷ l) q
  unfolding sent_by
  asked-same b =
      let i = a.own in
      let same : sent_by number (e ∷ l) ≡ sent_by number l = rw b in
      still-asked
      (record { bytes = i.bytes; since = since-same l e g b ∙ i.since; before = i.before; sent = same ∙ i.sent; few = λ n. rw same (i.few n) })

  -- with a byte: its origin is the open request, since all others are spent
  module _ (b : Byte) (x : e.seen.wire.byte ≡ Some b) (m : Origin l e.origin) where
    own-number : m.number ≡ number
    own-number = below_or_not m.number number earlier later
      where
        earlier : m.number < number → m.number ≡ number
        earlier i = absurd (omega (arith, a.spent m.number i m.recovered m.opened, m.few))

        later : number ≤ m.number → m.number ≡ number
        later i = omega (arith, m.granted, ap length a.newest)

    pub asked-more : Asked (e ∷ l) q
    unfolding sent_by
    asked-more =
        let i = a.own in
        let sent : sent_by number (e ∷ l) ≡ sent_by number l ++ b ∷ [] = rw (x, m.known, eq-eqb m.number number own-number) in
        let few : length (sent_by number l) < 10 = subst (λ (k : ℕ). length (sent_by k l) < 10) own-number m.few in
        still-asked
        (record {
          bytes = i.bytes ++ b ∷ [];
          since = since-more l e g b x ∙ rw (i.since, m.known, own-number) (sym (map-append _ i.bytes (b ∷ [])));
          before = i.before;
          sent = sent ∙ rw i.sent (append_assoc i.before i.bytes (b ∷ []));
          few = λ n. rw (sent, length-append) (omega arith);
        })
