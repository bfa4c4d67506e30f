-- A record of a known kind with as many bytes as its kind has.
use Rattle.std.specs.Prelude.{ℕ, ◌≤◌, ◌≡◌, List, length, get_or, leb}
use Rattle.base.specs.Choice.{pick}
use Rattle.base.specs.Reply.{Reply, accepted, refused}
use Rattle.esc_records.specs.Record.{width_of, last_kind}

pub record Whole (s : List ℕ) : Type 0 where
  pub known : get_or s 0 0 ≤ last_kind
  pub width : length s ≡ width_of (get_or s 0 0)

-- the width of a kind; 4 past the last
abbrev pub read_width : ℕ → Reply ℕ
read_width k = pick (leb k last_kind) (accepted (width_of k)) (refused 4)
