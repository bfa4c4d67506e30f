-- Bytes handed over in a lent output (document 01, number 9): written from its first entry on and the rest as found, if they fit.
use Rattle.std.specs.Prelude.{ℕ, ◌+◌, List, length, nat_le}
use Rattle.base.specs.Choice.{pick}
use Rattle.base.specs.Reply.{Reply, accepted, refused}
use Rattle.base.specs.BigEndian.{overwrite}

-- how much was written, or 9 where the output is shorter
unfoldable pub handed_reply : List ℕ → ℕ → Reply ℕ
handed_reply text room = pick (nat_le (length text) room) (accepted (length text)) (refused 9)

-- the lent output afterwards: all as found where it is refused
unfoldable pub handed_output : List ℕ → List ℕ → List ℕ
handed_output text out = pick (nat_le (length text) (length out)) (overwrite 0 text out) out

-- the same from a place on
unfoldable pub copied : ℕ → List ℕ → List ℕ → List ℕ
copied at text out = pick (nat_le (at + length text) (length out)) (overwrite at text out) out
