-- A wire byte's line: its ten bytes are a 05, whose time is the number of the last eight.
use Rattle.std.proofs.Common.{◌≡◌, ℕ, suc, zero, ◌+◌, ◌*◌, ◌≤◌, ◌<◌, true, List, [], ◌∷◌, ◌++◌, Some, length, get_or, take, drop, refl, sym, ap, ◌∙◌}
use Rattle.std.proofs.Common.{arith, zero-add, length-append, take-append-drop}
use Rattle.std.proofs.lemmas.List.{length-take-le}
use Rattle.base.specs.BigEndian.{number_at}
use Rattle.base.specs.Reply.{accepted}
use Rattle.esc_records.specs.Admission.{admitted_on, admitted_of}
use Rattle.esc_records.specs.Record.{record_of, read_record}
use Rattle.esc_records.specs.declared.record.Record.TheVariants as kind
use Rattle.esc_records.proofs.RecordLaws.{read-accepted}
use Rattle.hex_lines.specs.Digit.{small_digit, small, digit_of, pair_of}
use Rattle.hex_lines.specs.Line.{line_end, all_digits, pairs}
use Rattle.hex_lines.specs.NextLine.{first_line}
use Rattle.record_lines.specs.NextRecord.{record_by, admitted_by}
use Rattle.record_lines.specs.WireLine.{WireAt, NumberRead}
use Rattle.hex_lines.proofs.FirstLine.{first_before}
use Rattle.hex_lines.proofs.LineLaws.{read_whole}
use Rattle.hex_lines.proofs.PairsLaws.{pair_read, unended-digits}

-- ten bytes that begin with 05
wire-record : (s : List ℕ) → length s ≡ 10 → get_or s 0 0 ≡ 0x05 → read_record s ≡ accepted (kind.WireByte (get_or s 1 0) (number_at 8 s 2))
unfolding record_of
wire-record s l e =
    read-accepted s (record { known = rw e (omega arith); width = rw e l }) (rw e) (rw e)
    ∙ ap accepted (rw e)

pairs-length : (line : List ℕ) (k : ℕ) → length line ≡ 2 * k → length (pairs line) ≡ k
unfolding pairs
pairs-length [] k e = omega arith
pairs-length (a ∷ []) k e = absurd (omega arith)
pairs-length (a ∷ b ∷ line) zero e = absurd (omega arith)
pairs-length (a ∷ b ∷ line) (suc k) e = ap suc (pairs-length line k (omega arith))

-- behind two bytes stands the same number
number-behind : (k a b : ℕ) (s : List ℕ) → number_at k (a ∷ b ∷ s) 2 ≡ number_at k s 0
unfolding number_at
number-behind zero a b s = refl
number-behind (suc k) a b s =
    let here : 2 + k ≡ suc (suc k) = omega arith in
    rw (number-behind k a b s, here, zero-add)

-- 05, a byte, its time and LF; and the same as the code cuts it
wire_line_read : (chunk : List ℕ) → 4 ≤ length chunk → get_or chunk 0 0 ≡ 0x30 → get_or chunk 1 0 ≡ 0x35
    → (v : ℕ) → pair_of (get_or chunk 2 0) (get_or chunk 3 0) ≡ Some v
    → (time behind : List ℕ) → length time ≡ 16 → drop 4 chunk ≡ time ++ behind → 0 < length behind → get_or behind 0 0 ≡ line_end
    → (t : ℕ) → NumberRead time t → WireAt chunk (record { byte = v; at_ms = t })
unfolding all_digits pairs digit_of small small_digit admitted_of
wire_line_read [] h z f v p time behind l e b lf t n = absurd (omega arith)
wire_line_read (x ∷ []) h z f v p time behind l e b lf t n = absurd (omega arith)
wire_line_read (x ∷ y ∷ []) h z f v p time behind l e b lf t n = absurd (omega arith)
wire_line_read (x ∷ y ∷ c ∷ []) h z f v p time behind l e b lf t n = absurd (omega arith)
wire_line_read (x ∷ y ∷ c ∷ d ∷ more) h z f v p time behind l e b lf t n =
    let two = pair_read c d v p in
    let line = x ∷ y ∷ c ∷ d ∷ time in
    let digits : all_digits line ≡ true = rw (z, f) (two.digits time ∙ n.digits) in
    let all : x ∷ y ∷ c ∷ d ∷ more ≡ line ++ behind = ap (λ (m : List ℕ). x ∷ y ∷ c ∷ d ∷ m) e in
    let first : first_line (x ∷ y ∷ c ∷ d ∷ more) ≡ line = rw all (first_before line behind (unended-digits line digits) b lf) in
    let spelt : pairs line ≡ 0x05 ∷ v ∷ pairs time = rw (z, f, two.value) in
    let time-read : number_at 8 (0x05 ∷ v ∷ pairs time) 2 ≡ t = number-behind 8 0x05 v (pairs time) ∙ sym n.value in
    let record-read : read_record (pairs line) ≡ accepted (kind.WireByte v t) =
    rw spelt (wire-record (0x05 ∷ v ∷ pairs time) (omega (arith, pairs-length time 8 l)) refl ∙ rw time-read) in
    let read = read_whole line (omega arith) digits (omega arith) in
    record {
      long = omega (arith, ap length e, length-append time behind);
      ends = rw first (omega arith);
      stands = rw first (ap record_by read ∙ record-read);
      admitted = rw first (ap (admitted_by true) read ∙ ap (admitted_on true) record-read);
    }

pub wire_read : (chunk : List ℕ) → 4 ≤ length chunk → get_or chunk 0 0 ≡ 0x30 → get_or chunk 1 0 ≡ 0x35
    → (v : ℕ) → pair_of (get_or chunk 2 0) (get_or chunk 3 0) ≡ Some v
    → (rest time behind : List ℕ) → rest ≡ drop 4 chunk → (time ≡ take 16 rest) × (behind ≡ drop 16 rest) × (length behind + 16 ≡ length rest)
    → 0 < length behind → get_or behind 0 0 ≡ line_end → (t : ℕ) → NumberRead time t → WireAt chunk (record { byte = v; at_ms = t })
wire_read chunk h z f v p rest time behind e cut =
    let parts : drop 4 chunk ≡ time ++ behind = rw (← e, cut.0, cut.1) (sym (take-append-drop 16 rest)) in
    let long : length time ≡ 16 = rw cut.0 (length-take-le 16 rest (omega arith)) in
    wire_line_read chunk h z f v p time behind long parts
