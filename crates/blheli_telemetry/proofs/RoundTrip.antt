-- Reading and writing a frame undo each other.
use mathlib.Core.Path.{◌≡◌, refl, ap, sym, ◌∙◌}
use mathlib.Core.List.{List}
use Prim.Native.Nat.{ℕ, ◌<◌, ◌≤◌}
use native.Mathlib.Omega.{arith}
use lib.ListN.{length, get_or, take, drop}
use lib.Seq.{take-add, take-suc, take_all, drop-drop}
use Rattle.base.specs.Reply.{accepted}
use Rattle.base.specs.BigEndian.{number_at, bytes_of}
use Rattle.blheli_telemetry.specs.Frame.{telemetry_of, payload_of, frame_of, read_frame, Ranged}
use Rattle.blheli_telemetry.specs.declared.frame.EscTelemetry.{EscTelemetry}
use Rattle.base.proofs.BigEndianLaws.{bytes-number}
use Rattle.blheli_telemetry.proofs.FrameLaws.{read-good, read-accepted}

same : (t u : EscTelemetry) → t.temperature_c ≡ u.temperature_c → t.voltage_cv ≡ u.voltage_cv → t.current_ca ≡ u.current_ca
    → t.consumption_mah ≡ u.consumption_mah → t.erpm_div100 ≡ u.erpm_div100 → t ≡ u
same t u a b d e f = rw (a, b, d, e, f)

fields : (t : EscTelemetry) → Ranged t → telemetry_of (frame_of t) ≡ t
unfolding telemetry_of frame_of payload_of number_at bytes_of
fields t r = same (telemetry_of (frame_of t)) t (omega arith) (omega arith) (omega arith) (omega arith) (omega arith)

-- reading what was written gives it back, for every telemetry value
pub read-written : (t : EscTelemetry) → Ranged t → read_frame (frame_of t) ≡ accepted t
unfolding frame_of payload_of bytes_of
read-written t r = read-good (frame_of t) refl refl ∙ ap accepted (fields t r)

-- the fields of a frame, as bytes, are the nine before its check byte
payload : (f : List ℕ) → length f ≡ 10 → ((k : ℕ) → get_or f k 0 < 256) → payload_of (telemetry_of f) ≡ take 9 f
unfolding telemetry_of payload_of
payload f l byte =
    rw (
      bytes-number 1 f 0 byte (omega arith),
      bytes-number 2 f 1 byte (omega arith),
      bytes-number 2 f 3 byte (omega arith),
      bytes-number 2 f 5 byte (omega arith),
      bytes-number 2 f 7 byte (omega arith),
    )
    (sym (take-add 1 8 f
    ∙ rw (take-add 2 6 (drop 1 f), drop-drop 2 1 f, take-add 2 4 (drop 3 f), drop-drop 2 3 f, take-add 2 2 (drop 5 f), drop-drop 2 5 f)))

-- writing what was read gives the ten bytes back, for every good frame
pub written_read : (f : List ℕ) (t : EscTelemetry) → ((k : ℕ) → get_or f k 0 < 256) → read_frame f ≡ accepted t → frame_of t ≡ f
unfolding frame_of
written_read f t byte e =
    let g = read-accepted f t e in
    let n : 9 < length f = omega (arith, g.ten) in
    let z : length f ≤ 10 = omega (arith, g.ten) in
    rw (← g.telemetry, payload f g.ten byte, g.check) (sym (take-suc f 9 0 n) ∙ take_all 10 f z)
