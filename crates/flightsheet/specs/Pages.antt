-- The pages of a sheet that is written as its samples come.
use Rattle.std.specs.Prelude.{◌≡◌, ℕ, ◌+◌, ◌*◌, ◌/◌, ◌%◌, ◌==◌, List, Option, drop, length}
use Rattle.std.specs.List.{All, flat_map}
use Rattle.std.specs.Io.KnownBytes.{Appends}
use Rattle.lent_samples.specs.Samples.{sample_length, samples_of}
use Rattle.sheet.specs.Page.{page_samples}
use Rattle.sheet.specs.Sheet.{pages_text}
use Rattle.flightsheet.specs.declared.craft.Craft.{Craft}
use Rattle.flightsheet.specs.declared.pages.Pages.{Pages}

-- how many pages samples fill
abbrev pub full : List (List ℕ) → ℕ
full taken = length taken / page_samples

abbrev pub parts_joined : List (List ℕ) → List ℕ
parts_joined parts = flat_map (λ part. part) parts

-- the sheet of a craft; the samples that were taken, each by its 22 bytes: their full pages are written, and those of the next are held
pub record Filed (c : Craft) (p : Pages) (taken : List (List ℕ)) (at_first now : Option (List ℕ)) : Type 0 where
  pub craft : p.craft ≡ c
  pub written : Appends at_first now (pages_text c.map c.magnets (samples_of taken) (full taken))
  pub held : p.held ≡ parts_joined (drop (full taken * page_samples) taken)
  pub number : p.number ≡ (full taken + 1) % 1_000_000
  pub first : p.first ≡ (full taken == 0)
  pub whole : All (λ part. length part ≡ sample_length) taken
