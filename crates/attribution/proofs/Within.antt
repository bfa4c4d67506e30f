-- Where each request is granted on a clean wire, the bytes that the wire holds, and those of the latest frame, are among the bytes taken in
-- since the latest 02 answered yes.
use mathlib.Core.Path.{◌≡◌, refl, sym, ◌∙◌, ap, subst}
use mathlib.Core.List.{List, [], ◌∷◌, ◌++◌, append_assoc, append-nil, map-append}
use Rattle.std.specs.Prelude.{Option, None, Some}
use Rattle.std.proofs.lemmas.Option.{none-some, same_Some}
use Prim.Native.Nat.{ℕ, zero, suc}
use lib.ListN.{length, length-map}
use Rattle.blheli_telemetry.specs.Crc.{crc_of}
use Rattle.booking.specs.History.{Opening, Timed, Byte, Past, Since}
use Rattle.booking.specs.Wire.{OnWire, Frame, wire, latest, frame_at}
use Rattle.booking.specs.Booking.{latest_frame}
use Rattle.booking.specs.Claims.{past_of}
use Rattle.attribution.specs.Marks.{LogEntry, Log, past}
use Rattle.attribution.specs.Origin.{Arrival}
use Rattle.attribution.specs.Since.{taken_since, values_of, Ten, all, InARow}
use Rattle.attribution.proofs.LawfulLog.{Lawful}
use Rattle.attribution.proofs.Steps.{Step, plain, grants, takes, answers, ends, restarts}
use Rattle.attribution.proofs.Along.{opening_of, along}
use Rattle.attribution.proofs.Since.{since-same, since-more}
use Rattle.attribution.proofs.Latest.{Clean, latest-none, extends, latest-length, ended, clean-more}
use Rattle.attribution.proofs.WireSteps.{wire-more, clean-keeps, frame-none, frame_same, frame-other, latest-same, latest-now}

-- each request is granted on a clean wire
abbrev pub CleanGrants : Log → Type 0
CleanGrants [] = Unit {0}
CleanGrants (e ∷ l) = ((g : Timed) → e.seen.requests.granted ≡ Some g → Clean (wire (past l))) × CleanGrants l

-- the last bytes taken in have these values
record EndsWith (ts : List Arrival) (bs : List ℕ) : Type 0 where
  last : List Arrival
  same : values_of last ≡ bs
  before : List Arrival
  place : ts ≡ before ++ last

-- a frame was read from ten of the bytes
pub record ReadFrom (ts : List Arrival) (f : Frame) : Type 0 where
  pub ten : Ten
  pub row : InARow (all ten) ts
  pub bytes : f.bytes ≡ values_of (all ten)
  pub when : ten.tenth.byte.at ≡ f.at

pub record Within (ts : List Arrival) (h : Past) : Type 0 where
  holds : (n : ℕ) (bs : List ℕ) → latest (wire h) n ≡ Some bs → EndsWith ts bs
  pub frame : (f : Frame) → latest_frame h ≡ Some f → ReadFrom ts f

no_bytes-none : (ts : List Arrival) (w : List OnWire) (bs : List ℕ) → latest w 0 ≡ Some bs → EndsWith ts bs
no_bytes-none ts w bs e = record { last = []; same = same_Some _ _ (sym (latest-none w) ∙ e); before = ts; place = sym (append-nil ts) }

-- a clean wire holds nothing
holds-nothing : (ts : List Arrival) (w : List OnWire) → Clean w → (n : ℕ) (bs : List ℕ) → latest w n ≡ Some bs → EndsWith ts bs
holds-nothing ts w c zero bs e = no_bytes-none ts w bs e
holds-nothing ts w c (suc n) bs e = absurd (none-some bs (sym (clean-more w n c) ∙ e))

pub within-nothing : (ts : List Arrival) → Within ts []
unfolding wire latest latest_frame
within-nothing ts = record { holds = holds-nothing ts [] refl; frame = λ f x. absurd (none-some f x) }

module _ (o : Opening) (l : Log) (h : Past) (e : LogEntry) (i : Within (taken_since l) h) where
  -- a grant: no byte came in since
  grant-within : (g : Timed) → e.seen.requests.granted ≡ Some g → Clean (wire (e.seen ∷ h)) → Within (taken_since (e ∷ l)) (e.seen ∷ h)
  grant-within g x c =
      record {
        holds = holds-nothing (taken_since (e ∷ l)) (wire (e.seen ∷ h)) c;
        frame = λ f y. absurd (none-some f (sym (frame-none h e g x) ∙ y));
      }

  module _ (g : e.seen.requests.granted ≡ None) where
    same-within : e.seen.wire.byte ≡ None → Within (taken_since (e ∷ l)) (e.seen ∷ h)
    same-within b =
        rw (since-same l e g b)
        (record { holds = λ n bs x. i.holds n bs (latest-same h e b n bs x); frame = λ f x. i.frame f (sym (frame_same h e g b) ∙ x) })

    -- one byte more
    module _ (b : Byte) (x : e.seen.wire.byte ≡ Some b) where
      abbrev t : Arrival
      t = record { byte = b; origin = e.origin }

      abbrev ts : List Arrival
      ts = taken_since l ++ t ∷ []

      values-more : (s : List Arrival) → values_of (s ++ t ∷ []) ≡ values_of s ++ b.value ∷ []
      values-more s = map-append _ s (t ∷ [])

      holds_more : (n : ℕ) (bs : List ℕ) → latest (wire (e.seen ∷ h)) n ≡ Some bs → EndsWith ts bs
      holds_more zero bs z = no_bytes-none ts (wire (e.seen ∷ h)) bs z
      holds_more (suc n) bs z =
          let w = extends (wire h) b.value n bs (ap (λ (w : List OnWire). latest w (suc n)) (sym (wire-more h e b x)) ∙ z) in
          let k = i.holds n w.shorter w.before in
          record {
            last = k.last ++ t ∷ [];
            same = values-more k.last ∙ ap (λ (s : List ℕ). s ++ b.value ∷ []) k.same ∙ w.whole;
            before = k.before;
            place = rw k.place (append_assoc k.before k.last (t ∷ []));
          }

      -- a frame end: its ten bytes are the last
      new-frame : (f : List ℕ) → frame_at (wire h) b.value ≡ Some f → ReadFrom ts (record { bytes = f; at = b.at })
      new-frame f y =
          let w = ended (wire h) b.value f y in
          let k = i.holds 9 w.nine w.before in
          record {
            ten =
                record {
                  nine = k.last;
                  tenth = t;
                  count = sym (length-map k.last _) ∙ ap length k.same ∙ latest-length (wire h) 9 w.nine w.before;
                  checks = w.checks ∙ ap crc_of (sym k.same);
                };
            row = record { before = k.before; after = []; place = rw k.place (simp (append_assoc, append-nil)) };
            bytes = w.whole ∙ ap (λ (s : List ℕ). s ++ b.value ∷ []) (sym k.same) ∙ sym (values-more k.last);
            when = refl;
          }

      -- any other byte comes after the latest frame
      old-frame : (f : Frame) → ReadFrom (taken_since l) f → ReadFrom ts f
      old-frame f k =
          record {
            ten = k.ten;
            row = record { before = k.row.before; after = k.row.after ++ t ∷ []; place = rw k.row.place (simp append_assoc) };
            bytes = k.bytes;
            when = k.when;
          }

      more_within : Within (taken_since (e ∷ l)) (e.seen ∷ h)
      more_within = rw (since-more l e g b x) (record { holds = holds_more; frame = go (frame_at (wire h) b.value) refl })
        where
          go : (y : Option (List ℕ)) → frame_at (wire h) b.value ≡ y → (f : Frame) → latest_frame (e.seen ∷ h) ≡ Some f → ReadFrom ts f
          go (Some y) z f w = subst (ReadFrom ts) (same_Some _ _ (sym (latest-now h e g b x y z) ∙ w)) (new-frame y z)
          go None z f w = old-frame f (i.frame f (sym (frame-other h e g b x z) ∙ w))

  pub step-within : ((g : Timed) → e.seen.requests.granted ≡ Some g → Clean (wire h)) → Step o h e.seen → Within (taken_since (e ∷ l)) (e.seen ∷ h)
  step-within clean (plain s) = same-within s.granted s.byte
  step-within clean (grants q f s) = grant-within _ s.granted (clean-keeps h e s.byte (clean _ s.granted))
  step-within clean (takes b a s) = more_within s.granted _ s.byte
  step-within clean (answers q s) = same-within s.granted s.byte
  step-within clean (ends t s) = same-within s.granted s.byte
  step-within clean (restarts c f w s) = same-within s.granted s.byte

pub within : (l : Log) → Lawful l → CleanGrants l → Within (taken_since l) (past l)
within =
    along (λ l s. CleanGrants l → Within (taken_since l) (past_of s)) (λ c. within-nothing (taken_since []))
    (λ l f t o i c. within-nothing (taken_since (opening_of f t o ∷ l)))
    (λ l s e k x st i c.
    step-within s.opening l s.past e (i c.1) (λ g y. subst (λ (z : Option Since). Clean (wire (past_of z))) x (c.0 g y)) st)
