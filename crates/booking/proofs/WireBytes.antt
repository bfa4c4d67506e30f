-- Records made of bytes bring only bytes to the wire, and a frame on such a wire is ten bytes, of which the tenth is the check byte of the nine.
use mathlib.Core.Path.{◌≡◌, refl, subst}
use mathlib.Core.List.{List, [], ◌∷◌, ◌++◌}
use Rattle.std.specs.Prelude.{Option, None, Some, is_some}
use mathlib.Core.Bool.{Bool, true, false}
use Prim.Native.Nat.{ℕ, zero, suc, ◌<◌}
use native.Mathlib.Omega.{arith}
use lib.Dec.{eqb}
use lib.ListN.{length, get_or, take, length-append, get_or-map}
use lib.Seq.{take_at, get_or_at}
use borrow.Author.Tests.{lt-ltb, eqb-true}
use Rattle.base.specs.Choice.{pick}
use Rattle.base.specs.Reply.{Reply, accepted, refused}
use Rattle.blheli_telemetry.specs.Crc.{crc_of}
use Rattle.esc_records.specs.Record.{known_kind, width_of, lane_fits, flag_fits, record_of, read_record}
use Rattle.esc_unit.specs.Unit.{call_of, never_opened}
use Rattle.esc_records.specs.declared.record.Record.{Record}
use Rattle.esc_records.specs.declared.record.Record.TheVariants as kind
use Rattle.esc_answers.specs.declared.answer.Answer.{Answer}
use Rattle.esc_unit.specs.declared.unit.Unit.{Unit as TheUnit}
use Rattle.base.specs.Maybe.{or_else}
use Rattle.booking.specs.History.{Call, History, Opening, Byte, Seen, seen, Past, Since, then, since_event, since}
use Rattle.booking.specs.Wire.{OnWire, byte, cut, on_wire, wire, checked, one_more, latest, frame_at, Frame, timed, frame_in}
use Rattle.booking.specs.Booking.{latest_frame}
use Rattle.booking.specs.Run.{feed, run}
use Rattle.booking.specs.Claims.{past_of, past_after}
use Rattle.base.specs.Bytes.{are_bytes}
use Rattle.base.proofs.BytesLaws.{bytes_below}
use Rattle.booking.specs.FirstNine.{of_bytes}
use Rattle.base.proofs.Both.{and_left, and_right}

-- each of them is below 256
abbrev pub Bytes : List ℕ → Type 0
Bytes s = (k : ℕ) → get_or s k 0 < 256

bytes-snoc : (s : List ℕ) (b : ℕ) → Bytes s → b < 256 → Bytes (s ++ b ∷ [])
bytes-snoc [] b h l zero = l
bytes-snoc [] b h l (suc k) = omega arith
bytes-snoc (x ∷ s) b h l zero = h zero
bytes-snoc (x ∷ s) b h l (suc k) = bytes-snoc s b (λ j. h (suc j)) l k

-- what may be missing, and is such where it is there
abbrev pub Each : {A : Type 0} → (A → Type 0) → Option A → Type 0
Each P None = Unit {0}
Each P (Some x) = P x

-- the byte of a 05; 0 for the other kinds
unfoldable byte_of : Record → ℕ
byte_of (kind.Open c t) = 0
byte_of (kind.NextRequest now) = 0
byte_of (kind.MarkRequestQueued q now) = 0
byte_of (kind.ActuatorAck k now) = 0
byte_of (kind.PollTimeout now) = 0
byte_of (kind.WireByte b now) = b
byte_of kind.WireDiscontinuity = 0
byte_of (kind.TryRecover armed now) = 0
byte_of kind.TakeBackAfterRetries = 0
byte_of kind.RefreshWireStats = 0
byte_of (kind.IdleCheck c t) = 0
byte_of (kind.IdleStatus now) = 0
byte_of kind.Report = 0
byte_of (kind.StoredSample l) = 0
byte_of (kind.Figures l) = 0

abbrev ByteIn : Record → Type 0
ByteIn r = byte_of r < 256

record-byte : (s : List ℕ) → Bytes s → ByteIn (record_of s)
unfolding record_of byte_of are_bytes
record-byte s h =
    rw (← get_or-map byte_of)
    (bytes_below (0 ∷ 0 ∷ 0 ∷ 0 ∷ 0 ∷ get_or s 1 0 ∷ 0 ∷ 0 ∷ 0 ∷ 0 ∷ 0 ∷ 0 ∷ 0 ∷ 0 ∷ 0 ∷ []) (rw (lt-ltb (get_or s 1 0) 256 (h 1))) (get_or s 0 0))

abbrev InReply : Reply Record → Type 0
InReply (refused n) = Unit {0}
InReply (accepted r) = ByteIn r

read_byte : (s : List ℕ) → Bytes s → InReply (read_record s)
unfolding read_record
read_byte s h = go (known_kind s) (eqb (length s) (width_of (get_or s 0 0))) (lane_fits s) (flag_fits s)
  where
    go : (a b c d : Bool) → InReply (pick a (pick b (pick c (pick d (accepted (record_of s)) (refused 7)) (refused 6)) (refused 5)) (refused 4))
    go true true true true = record-byte s h
    go true true true false = tt
    go true true false d = tt
    go true false c d = tt
    go false b c d = tt

-- what is seen of the wire
abbrev pub Below : Byte → Type 0
Below b = b.value < 256

seen-byte : (r : Record) (a : Answer) → ByteIn r → Each Below (seen r a).wire.byte
unfolding byte_of
seen-byte (kind.Open c t) a i = tt
seen-byte (kind.NextRequest now) a i = tt
seen-byte (kind.MarkRequestQueued q now) a i = tt
seen-byte (kind.ActuatorAck k now) a i = tt
seen-byte (kind.PollTimeout now) a i = tt
seen-byte (kind.WireByte b now) a i = i
seen-byte kind.WireDiscontinuity a i = tt
seen-byte (kind.TryRecover armed now) a i = tt
seen-byte kind.TakeBackAfterRetries a i = tt
seen-byte kind.RefreshWireStats a i = tt
seen-byte (kind.IdleCheck c t) a i = tt
seen-byte (kind.IdleStatus now) a i = tt
seen-byte kind.Report a i = tt
seen-byte (kind.StoredSample l) a i = tt
seen-byte (kind.Figures l) a i = tt

pub seen_below : (s : List ℕ) (r : Record) (a : Answer) → are_bytes s ≡ true → read_record s ≡ accepted r → Each Below (seen r a).wire.byte
seen_below s r a e read = seen-byte r a (subst InReply read (read_byte s (bytes_below s e)))

abbrev pub Heard : Past → Type 0
Heard [] = Unit {0}
Heard (e ∷ h) = Each Below e.wire.byte × Heard h

heard-then : (o : Option Opening) (e : Seen) (s : Option Since) → Each Below e.wire.byte → Heard (past_of s) → Heard (past_of (then o e s))
heard-then (Some o) e s b i = tt
heard-then None e None b i = tt
heard-then None e (Some s) b i = (b, i)

heard-event : (x : Reply Record) → InReply x → (y : Reply Answer) (s : Option Since) → Heard (past_of s) → Heard (past_of (since_event x y s))
heard-event (refused n) b y s i = i
heard-event (accepted r) b (refused n) s i = i
heard-event (accepted r) b (accepted a) s i = heard-then (seen r a).opening (seen r a) s (seen-byte r a b) i

heard-feed : (cs : List Call) (u : TheUnit) (h : History) → of_bytes cs ≡ true → Heard (past_of (since h)) → Heard (past_of (since (feed u h cs).history))
unfolding feed since of_bytes
heard-feed [] u h e i = i
heard-feed (c ∷ cs) u h e i =
    heard-feed cs (call_of u c.bytes c.room).unit (record { call = c; reply = (call_of u c.bytes c.room).reply } ∷ h)
    (and_right (are_bytes c.bytes) _ e)
    (heard-event (read_record c.bytes) (read_byte c.bytes (bytes_below c.bytes (and_left _ _ e))) (call_of u c.bytes c.room).reply (since h) i)

-- after a list of records made of bytes, only bytes were heard
pub heard-after : (cs : List Call) → of_bytes cs ≡ true → Heard (past_after cs)
unfolding run since
heard-after cs e = heard-feed cs never_opened [] e tt

-- frames
pub record Good (f : List ℕ) : Type 0 where
  pub ten : length f ≡ 10
  pub check : crc_of (take 9 f) ≡ get_or f 9 0
  pub bytes : Bytes f

abbrev Sized : ℕ → List ℕ → Type 0
Sized n xs = (length xs ≡ n) × Bytes xs

-- the bytes of a wire
abbrev OnlyBytes : List OnWire → Type 0
OnlyBytes [] = Unit {0}
OnlyBytes (cut ∷ w) = OnlyBytes w
OnlyBytes (byte b ∷ w) = (b < 256) × OnlyBytes w

on-wire : (b : Option Byte) (c : Bool) (w : List OnWire) → Each Below b → OnlyBytes w → OnlyBytes (on_wire b c w)
on-wire None true w i j = j
on-wire None false w i j = j
on-wire (Some b) c w i j = (i, j)

pub wire-bytes : (h : Past) → Heard h → OnlyBytes (wire h)
unfolding wire
wire-bytes [] i = tt
wire-bytes (e ∷ h) i = on-wire e.wire.byte e.wire.cut (wire h) i.0 (wire-bytes h i.1)

one_more-sized : (n : ℕ) (f xs : Option (List ℕ)) (b : ℕ) → b < 256 → Each (Sized n) xs → Each (Sized (suc n)) (one_more f xs b)
one_more-sized n (Some f) xs b l i = tt
one_more-sized n None None b l i = tt
one_more-sized n None (Some xs) b l i = (simp length-append (omega (arith, i.0)), bytes-snoc xs b i.1 l)

latest-sized : (w : List OnWire) → OnlyBytes w → (n : ℕ) → Each (Sized n) (latest w n)
unfolding latest
latest-sized [] i zero = (refl, λ k. omega arith)
latest-sized [] i (suc n) = tt
latest-sized (cut ∷ w) i zero = (refl, λ k. omega arith)
latest-sized (cut ∷ w) i (suc n) = tt
latest-sized (byte b ∷ w) i zero = (refl, λ k. omega arith)
latest-sized (byte b ∷ w) i (suc n) = one_more-sized n (checked b (latest w 9)) (latest w n) b i.0 (latest-sized w i.1 n)

frame-checked : (xs : Option (List ℕ)) (b : ℕ) → b < 256 → Each (Sized 9) xs → Each Good (checked b xs)
frame-checked None b l i = tt
frame-checked (Some xs) b l i = go (eqb (crc_of xs) b) refl
  where
    go : (z : Bool) → eqb (crc_of xs) b ≡ z → Each Good (pick z (Some (xs ++ b ∷ [])) None)
    go false z = tt
    go true z =
        record {
          ten = simp length-append (omega (arith, i.0));
          check = rw (take_at xs (b ∷ []) 9 i.0, get_or_at xs b [] 0 9 i.0) (eqb-true _ _ z);
          bytes = bytes-snoc xs b i.1 l;
        }

pub frame-good : (w : List OnWire) → OnlyBytes w → (b : ℕ) → b < 256 → Each Good (frame_at w b)
unfolding frame_at
frame-good w i b l = frame-checked (latest w 9) b l (latest-sized w i 9)

abbrev pub GoodFrame : Frame → Type 0
GoodFrame f = Good f.bytes

pub timed-good : (x : Option (List ℕ)) (t : ℕ) → Each Good x → Each GoodFrame (timed x t)
timed-good None t i = tt
timed-good (Some f) t i = i

frame-in : (h : Past) → Heard h → (b : Option Byte) → Each Below b → Each GoodFrame (frame_in (wire h) b)
frame-in h i None j = tt
frame-in h i (Some b) j = timed-good (frame_at (wire h) b.value) b.at (frame-good (wire h) (wire-bytes h i) b.value j)

newer : (g : Bool) (x y : Option Frame) → Each GoodFrame x → Each GoodFrame y → Each GoodFrame (pick g None (or_else x y))
newer true x y i j = tt
newer false None y i j = j
newer false (Some f) y i j = i

pub latest-frame-good : (h : Past) → Heard h → Each GoodFrame (latest_frame h)
unfolding latest_frame
latest-frame-good [] i = tt
latest-frame-good (e ∷ h) i =
    newer (is_some e.requests.granted) (frame_in (wire h) e.wire.byte) (latest_frame h) (frame-in h i.1 e.wire.byte i.0) (latest-frame-good h i.1)
