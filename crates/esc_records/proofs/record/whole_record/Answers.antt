-- A lane that is taken is one of the four. Where more fields follow, the kind is put in first.
use Rattle.std.proofs.Common.{◌≡◌, get_or, arith}
use Rattle.esc_lanes.specs.Output.{read_lane}
use Rattle.esc_records.specs.Record.{record_of}
use Rattle.esc_records.proofs.RecordLaws.{whole_reply, whole_read}
use Rattle.esc_records.proofs.record.whole_record.Goals.{After-u8}
use Rattle.esc_records.proofs.record.whole_record.Goals as goal

kind : (c : After-u8) → get_or c.args.bytes.now 0 0 ≡ c.u8.result
kind c = rw (c.u8.ensures.byte, c.new-reader.ensures)

pub returns-in_ok-request-in-2 : goal.returns-in_ok-request-in-2
unfolding whole_reply record_of read_lane
returns-in_ok-request-in-2 c =
    rw (whole_read c.args.bytes.now c.requires, kind (goal.at.returns-in_ok-request-in-2 c).After-u8, c.in-2.is) (grind arith)

pub returns-in_ok-request-in-3 : goal.returns-in_ok-request-in-3
unfolding whole_reply record_of read_lane
returns-in_ok-request-in-3 c =
    rw (whole_read c.args.bytes.now c.requires, kind (goal.at.returns-in_ok-request-in-3 c).After-u8, c.in-3.is) (grind arith)

pub returns-in_ok-output-in-13 : goal.returns-in_ok-output-in-13
unfolding whole_reply record_of read_lane
returns-in_ok-output-in-13 c = grind (arith, whole_read)

pub returns-in_ok-output-in-14 : goal.returns-in_ok-output-in-14
unfolding whole_reply record_of read_lane
returns-in_ok-output-in-14 c = grind (arith, whole_read)
