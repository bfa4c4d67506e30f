-- An opened unit takes whatever record a line stands for.
use Rattle.std.proofs.Common.{◌≡◌, ℕ, true, List, Option, Some, None, refl, sym, ◌∙◌}
use Rattle.base.specs.Reply.{Reply, accepted, refused}
use Rattle.esc_records.specs.Admission.{admitted_on, admitted_of}
use Rattle.esc_records.specs.declared.record.Record.{Record}
use Rattle.record_lines.specs.NextRecord.{record_by, admitted_by, NextRecordFrom, NextAdmittedFrom}
use Rattle.record_lines.specs.declared.next_record.EndedRecord.{EndedRecord}

any-taken : (r : Reply Record) → admitted_on true r ≡ r
any-taken (refused n) = refl
any-taken (accepted r) = refl

stands-taken : (l : Reply (List ℕ)) → record_by l ≡ admitted_by true l
unfolding admitted_of
stands-taken (refused n) = refl
stands-taken (accepted s) = sym (any-taken _)

pub next_taken : (begun chunk : List ℕ) (ended : Option EndedRecord) (held : List ℕ) → NextAdmittedFrom true begun chunk ended held
    → NextRecordFrom begun chunk ended held
next_taken begun chunk None held e = e
next_taken begun chunk (Some ended) held e =
    (record { ends = e.0.ends; behind = e.0.behind; stands = stands-taken _ ∙ e.0.admitted }, e.1)
