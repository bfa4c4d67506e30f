-- Document 01's whole session, by the rule alone: no unit is in this file.
use mathlib.Core.Path.{◌≡◌, refl}
use mathlib.Core.List.{List, [], ◌∷◌, map, reverse}
use Prim.Native.Nat.{ℕ}
use Rattle.base.specs.BigEndian.{number_at, bytes_of}
use Rattle.base.specs.Due.{due}
use Rattle.esc_records.specs.Record.{record_of, read_record}
use Rattle.esc_answers.specs.Answer.{request_bytes, next_bytes, timeout_bytes, body_bytes, answer_bytes, reply_bytes}
use Rattle.booking.specs.History.{Event, since}
use Rattle.booking.specs.Wire.{wire, latest, frame_at}
use Rattle.booking.specs.Booking.{open_request, started_at}
use Rattle.booking.specs.Faults.{faulted, quiet_since, retries, timeout_for, recovers}
use Rattle.booking.specs.Turns.{turn, last_queued, existing}
use Rattle.booking.specs.Rule.{rule_for, trace_of}
use Rattle.booking.proofs.Calls.{roomy}

-- the replies to a list of records, oldest first
abbrev pub replies : List (List ℕ) → List (List ℕ)
replies records = reverse (map (λ (e : Event). reply_bytes e.reply) (trace_of [] (map roomy records)))

pub session : replies
    ((0x00 ∷ 0x00 ∷ 0x00 ∷ 0x00 ∷ 0x00 ∷ 0x00 ∷ 0x00 ∷ 0x00 ∷ 0x00 ∷ 0x00 ∷ 0x00 ∷ 0x00 ∷ 0x14 ∷ 0x00 ∷ 0x00 ∷ 0x00 ∷ 0x64 ∷ 0x00 ∷ 0x00 ∷ 0x01 ∷ 0xf4
    ∷ 0x00 ∷ 0x00 ∷ 0x00 ∷ 0x00 ∷ 0x00 ∷ 0x00 ∷ 0x00 ∷ 0x00 ∷ [])
    ∷ (0x01 ∷ 0x00 ∷ 0x00 ∷ 0x00 ∷ 0x00 ∷ 0x00 ∷ 0x00 ∷ 0x00 ∷ 0x00 ∷ [])
    ∷ (0x02 ∷ 0x00 ∷ 0x00 ∷ 0x00 ∷ 0x00 ∷ 0x00 ∷ 0x00 ∷ 0x00 ∷ 0x00 ∷ 0x00 ∷ 0x00 ∷ 0x00 ∷ 0x00 ∷ 0x00 ∷ [])
    ∷ (0x02 ∷ 0x00 ∷ 0x00 ∷ 0x00 ∷ 0x00 ∷ 0x00 ∷ 0x00 ∷ 0x00 ∷ 0x00 ∷ 0x00 ∷ 0x00 ∷ 0x00 ∷ 0x00 ∷ 0x00 ∷ [])
    ∷ ([])
    ∷ (0x04 ∷ 0x00 ∷ 0x00 ∷ 0x00 ∷ 0x00 ∷ 0x00 ∷ 0x00 ∷ 0x00 ∷ 0x14 ∷ [])
    ∷ (0x07 ∷ 0x00 ∷ 0x00 ∷ 0x00 ∷ 0x00 ∷ 0x00 ∷ 0x00 ∷ 0x00 ∷ 0x02 ∷ 0x07 ∷ [])
    ∷ (0x07 ∷ 0x00 ∷ 0x00 ∷ 0x00 ∷ 0x00 ∷ 0x00 ∷ 0x00 ∷ 0x00 ∷ 0x02 ∷ 0x08 ∷ [])
    ∷ [])
    ≡ (0x00 ∷ [])
    ∷ (0x00 ∷ 0x01 ∷ 0x00 ∷ 0x00 ∷ 0x00 ∷ 0x00 ∷ 0x00 ∷ [])
    ∷ (0x00 ∷ 0x01 ∷ [])
    ∷ (0x00 ∷ 0x00 ∷ [])
    ∷ (0x04 ∷ [])
    ∷ (0x00 ∷ 0x01 ∷ 0x00 ∷ 0x00 ∷ 0x00 ∷ 0x00 ∷ 0x00 ∷ [])
    ∷ (0x00 ∷ 0x00 ∷ [])
    ∷ (0x00 ∷ 0x01 ∷ [])
    ∷ []
unfolding number_at bytes_of due record_of read_record request_bytes next_bytes timeout_bytes body_bytes answer_bytes reply_bytes since wire latest frame_at
    open_request started_at faulted quiet_since retries timeout_for recovers turn last_queued existing rule_for trace_of
session = refl
