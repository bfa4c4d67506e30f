-- What bytes tell: a delivered sample, which is known by its answer's form, another answer, or that they are none.
use Rattle.std.specs.Prelude.{ℕ, List, take, drop}
use Rattle.base.specs.Choice.{pick}
use Rattle.lent_samples.specs.Samples.{sample_length}
use Rattle.answer_lines.specs.Form.{fits_one, deliveries, other_answers}
use Rattle.answer_lines.specs.declared.told.Told.{Told}
use Rattle.answer_lines.specs.declared.told.Told.TheVariants as told

-- the 22 bytes behind 00 02
abbrev pub sample_in : List ℕ → List ℕ
sample_in s = take sample_length (drop 2 s)

-- told.NoAnswer where they are no answer's and no refusal's number
unfoldable pub told_by : List ℕ → Told
told_by s = pick (fits_one deliveries s) (told.Sample (sample_in s)) (pick (fits_one other_answers s) told.Other told.NoAnswer)
