-- The rows so far stand behind row one.
use Rattle.std.proofs.Common.{◌++◌, ◌+◌, ◌*◌}
use Rattle.lent_samples.specs.Samples.{samples_of}
use Rattle.sheet.specs.Row.{head_text}
use Rattle.sheet.specs.Page.{places_text}
use Rattle.sheet.proofs.PageLaws.{Standing}
use Rattle.sheet.proofs.page.put_page.Given as goal

abbrev pub invariant-loop-place : goal.invariant-loop-place
invariant-loop-place l =
    Standing l.at (head_text l.number ++ places_text l.map l.magnets (samples_of l.samples) l.place) l.fn.out l.out ((l.place + 1) * 54)
