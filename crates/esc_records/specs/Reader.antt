-- A reader of bytes: where it begins, where it stands further on, and the fields that can be refused.
use Rattle.std.specs.Prelude.{ℕ, ◌+◌, Bool, List, slice_index, eqb, leb}
use Rattle.std.specs.Borrow.{Bor}
use Rattle.base.specs.Choice.{pick}
use Rattle.base.specs.Reply.{Reply, accepted, refused}
use Rattle.esc_lanes.specs.declared.request.EscActuatorRequest.{EscActuatorRequest}
use Rattle.esc_records.specs.Record.{request_at}
use Rattle.esc_records.specs.declared.reader.Reader.{Reader}

-- in front of the first byte
abbrev pub begun : Bor (List ℕ) → Reader
begun bytes = record { bytes = bytes; at = 0 }

-- so many bytes further on
abbrev pub moved : Reader → ℕ → Reader
moved r width = record { bytes = r.bytes; at = r.at + width }

-- a byte that says no or yes; 7 above 1
abbrev pub read_flag : ℕ → Reply Bool
read_flag x = pick (leb x 1) (accepted (eqb x 1)) (refused 7)

-- S L; 6 where the lane is above 3
abbrev pub read_request : List ℕ → ℕ → Reply EscActuatorRequest
read_request s at = pick (leb (slice_index s (at + 4)) 3) (accepted (request_at s at)) (refused 6)
