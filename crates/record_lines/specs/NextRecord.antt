-- The record of the next line at the front of a chunk.
use Rattle.std.specs.Prelude.{ℕ, ◌+◌, ◌<◌, ◌≡◌, Bool, List, [], ◌++◌, length, take, Option, Some, None}
use Rattle.base.specs.Reply.{Reply, accepted, refused, replied}
use Rattle.esc_records.specs.Admission.{admitted_of}
use Rattle.esc_records.specs.Record.{read_record}
use Rattle.esc_records.specs.declared.record.Record as declared
use Rattle.hex_lines.specs.Line.{read_line, most_held}
use Rattle.hex_lines.specs.NextLine.{first_line}
use Rattle.record_lines.specs.declared.next_record.EndedRecord.{EndedRecord}

-- 1 to 3 by the line, 4 to 7 by the record
abbrev pub record_by : Reply (List ℕ) → Reply declared.Record
record_by (refused n) = refused n
record_by (accepted record-bytes) = read_record record-bytes

-- 1 to 3 by the line, 4 to 8 by the record and whether the unit was opened
abbrev pub admitted_by : Bool → Reply (List ℕ) → Reply declared.Record
admitted_by opened (refused n) = refused n
admitted_by opened (accepted record-bytes) = admitted_of opened record-bytes

-- LF ends the line within the chunk, and this is the record that it stands for, or why it stands for none
pub record RecordEnded (begun chunk : List ℕ) (ended : EndedRecord) : Type 0 where
  pub ends : length (first_line chunk) < length chunk
  pub behind : ended.behind ≡ length (first_line chunk) + 1
  pub stands : record_by (read_line (begun ++ first_line chunk)) ≡ replied ended.record

-- the line goes on behind the chunk, and is held; or LF ends it, none is held, and it stands for a record or for none
abbrev pub NextRecordFrom : List ℕ → List ℕ → Option EndedRecord → List ℕ → Type 0
NextRecordFrom begun chunk None held = (first_line chunk ≡ chunk) × (held ≡ take most_held (begun ++ chunk))
NextRecordFrom begun chunk (Some ended) held = RecordEnded begun chunk ended × (held ≡ [])

-- LF ends the line within the chunk, and this is what comes of its record
pub record AdmittedEnded (opened : Bool) (begun chunk : List ℕ) (ended : EndedRecord) : Type 0 where
  pub ends : length (first_line chunk) < length chunk
  pub behind : ended.behind ≡ length (first_line chunk) + 1
  pub admitted : admitted_by opened (read_line (begun ++ first_line chunk)) ≡ replied ended.record

-- the line goes on behind the chunk, and is held; or LF ends it, none is held, and its record is taken or refused
abbrev pub NextAdmittedFrom : Bool → List ℕ → List ℕ → Option EndedRecord → List ℕ → Type 0
NextAdmittedFrom opened begun chunk None held = (first_line chunk ≡ chunk) × (held ≡ take most_held (begun ++ chunk))
NextAdmittedFrom opened begun chunk (Some ended) held = AdmittedEnded opened begun chunk ended × (held ≡ [])
