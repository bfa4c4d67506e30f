-- What the parser gives along a list is told by the wire so far and by the bytes and cuts to come; and none of it reaches behind a cut.
use mathlib.Core.Path.{◌≡◌, refl, sym, ◌∙◌, ap}
use mathlib.Core.Bool.{Bool, true, false, ◌||◌, true≢false, false≢true}
use mathlib.Core.List.{List, [], ◌∷◌, ◌++◌}
use Rattle.std.specs.Prelude.{Option, None, Some, is_some}
use Prim.Native.Nat.{ℕ}
use Rattle.base.specs.Reply.{Reply, accepted, refused}
use Rattle.blheli_telemetry.specs.Parser.{push_of}
use Rattle.blheli_telemetry.specs.declared.frame.EscTelemetry.{EscTelemetry}
use Rattle.esc_records.specs.Record.{read_record}
use Rattle.esc_unit.specs.Unit.{call_of}
use Rattle.esc_records.specs.declared.record.Record.{Record}
use Rattle.esc_answers.specs.declared.answer.Answer.{Answer}
use Rattle.esc_unit.specs.declared.unit.Unit.{Unit}
use Rattle.booking.specs.History.{Call, Opening, Byte, Seen, seen, Since, then, since_event, since}
use Rattle.booking.specs.Wire.{OnWire, byte, cut, on_wire, wire, frame_at, parsed}
use Rattle.booking.specs.Run.{run}
use Rattle.booking.specs.Parser.{parser_of}
use Rattle.booking.specs.Claims.{past_of, past_after}
use Rattle.booking.specs.FramedFromCut.{Passed, passed_in, passed, rest, reopened, heard, given_at, given, just_cut, FramedAlikeFromCut}
use Rattle.booking.proofs.ManagerState.{given-at}
use Rattle.booking.proofs.UnitSteps.{UnitAt}
use Rattle.booking.proofs.Traced.{Fits, fits_after, called}
use Rattle.booking.proofs.FramedAlike.{frame-local}

-- what the rule gives at each byte to come, after a wire
unfoldable along : List OnWire → List OnWire → List (Option EscTelemetry)
along w [] = []
along w (byte b ∷ later) = parsed (frame_at w b) ∷ along (byte b ∷ w) later
along w (cut ∷ later) = along (cut ∷ w) later

along-local : (later same v w : List OnWire) → along (same ++ cut ∷ v) later ≡ along (same ++ cut ∷ w) later
unfolding along
along-local [] same v w = refl
along-local (byte b ∷ later) same v w = rw (frame-local same v w b, along-local later (byte b ∷ same) v w)
along-local (cut ∷ later) same v w = along-local later (cut ∷ same) v w

-- one call
module _ (s : Since) (u : Unit) (i : UnitAt s.opening s.past u) (later : List Passed) where
  -- where it leaves t, what comes later is known
  abbrev Known : Unit → Type 0
  Known v = (t : Since) → Fits (Some t) v → reopened later ≡ false → given later ≡ along (wire t.past) (heard later)

  gives : (b : ℕ) → (push_of (parser_of u) b).parsed ≡ parsed (frame_at (wire s.past) b)
  gives b = ap (λ (z : Unit). (push_of (parser_of z) b).parsed) i.state ∙ given-at s.past i.p i.parser b

  on-wire : (b : Option Byte) (k : Bool) → given later ≡ along (on_wire b k (wire s.past)) (heard later)
      → given_at (parser_of u) b (given later) ≡ along (wire s.past) (on_wire b k (heard later))
  unfolding along
  on-wire None true e = e
  on-wire None false e = e
  on-wire (Some b) k e = rw (gives b.value, e)

  one-shown : (e : Seen) (v : Unit) (o : Option Opening) → Fits (then o e (Some s)) v → (is_some o || reopened later) ≡ false → Known v
      → given_at (parser_of u) e.wire.byte (given later) ≡ along (wire s.past) (on_wire e.wire.byte e.wire.cut (heard later))
  unfolding wire
  one-shown e v None fits shut known =
      on-wire e.wire.byte e.wire.cut (known (record { opening = s.opening; past = e ∷ s.past }) fits shut)
  one-shown e v (Some o) fits shut known = absurd (true≢false shut)

  one-call : (v : Unit) (x : Reply Record) (y : Reply Answer) → Fits (since_event x y (Some s)) v → reopened (passed_in (parser_of u) x y later) ≡ false
      → Known v
      → given (passed_in (parser_of u) x y later) ≡ along (wire s.past) (heard (passed_in (parser_of u) x y later))
  unfolding given heard reopened
  one-call v (refused n) y fits shut known = known s fits shut
  one-call v (accepted r) (refused n) fits shut known = known s fits shut
  one-call v (accepted r) (accepted a) fits shut known = one-shown (seen r a) v (seen r a).opening fits shut known

given-along : (cs : List Call) (s : Since) (u : Unit) → Fits (Some s) u → reopened (passed u cs) ≡ false
    → given (passed u cs) ≡ along (wire s.past) (heard (passed u cs))
unfolding passed given heard along
given-along [] s u i shut = refl
given-along (c ∷ cs) s u i shut =
    one-call s u i (passed v cs) v (read_record c.bytes) (call_of u c.bytes c.room).reply (called (Some s) u i c.bytes c.room).fits shut
    (λ t fits k. given-along cs t v fits k)
  where
    v : Unit
    v = (call_of u c.bytes c.room).unit

-- from a cut on, the bytes and cuts alone tell what is given
module _ (before after : List Call) (shut : reopened (rest before after) ≡ false) where
  abbrev ByWire : Type 0
  ByWire = given (rest before after) ≡ along (cut ∷ []) (heard (rest before after))

  at_cut : (s : Since) → Fits (Some s) (run before).unit → (w : List OnWire) → wire s.past ≡ w → just_cut w ≡ true → ByWire
  at_cut s i [] e z = absurd (false≢true z)
  at_cut s i (byte b ∷ w) e z = absurd (false≢true z)
  at_cut s i (cut ∷ w) e z =
      given-along after s (run before).unit i shut
      ∙ ap (λ (y : List OnWire). along y (heard (rest before after))) e
      ∙ along-local (heard (rest before after)) [] w []

  opened : (s : Option Since) → Fits s (run before).unit → just_cut (wire (past_of s)) ≡ true → ByWire
  unfolding wire
  opened None i z = absurd (false≢true z)
  opened (Some s) i z = at_cut s i (wire s.past) refl z

  from_cut : just_cut (wire (past_after before)) ≡ true → ByWire
  from_cut z = opened (since (run before).history) (fits_after before) z

pub framed-alike-from-cut : FramedAlikeFromCut
framed-alike-from-cut before after before' after' k k' shut shut' same =
    from_cut before after shut k ∙ ap (along (cut ∷ [])) same ∙ sym (from_cut before' after' shut' k')
