-- The pages so far are written, and the samples of the others are left.
use Rattle.std.proofs.Common.{◌≡◌, ◌*◌, drop}
use Rattle.lent_samples.specs.Samples.{samples_of}
use Rattle.sheet.specs.Sheet.{pages_text}
use Rattle.sheet.proofs.PageLaws.{Standing}
use Rattle.sheet.proofs.sheet.put_pages.Given as goal

abbrev pub invariant-loop-page : goal.invariant-loop-page
invariant-loop-page l = record {
  standing : Standing 0 (pages_text l.map l.magnets (samples_of l.samples) l.page) l.fn.out l.out (l.page * 2214);
  left : l.rest ≡ drop (l.page * 40) l.samples;
}
