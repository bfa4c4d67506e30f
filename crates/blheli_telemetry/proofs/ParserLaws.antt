-- The parser's two ways.
use mathlib.Core.Path.{◌≡◌}
use Prim.Native.Nat.{ℕ}
use mathlib.Core.Bool.{true, false}
use lib.Dec.{ltb}
use lib.ListN.{set}
use Rattle.blheli_telemetry.specs.Frame.{read_frame}
use Rattle.blheli_telemetry.specs.Parser.{collected, completed, push_of}
use Rattle.blheli_telemetry.specs.declared.parser.StreamParser.{StreamParser}

pub push-few : (p : StreamParser) (b : ℕ) → ltb p.len 9 ≡ true → push_of p b ≡ collected p b
unfolding push_of
push-few p b h = rw h

pub push-tenth : (p : StreamParser) (b : ℕ) → ltb p.len 9 ≡ false → push_of p b ≡ completed (set p.bytes 9 b) p.stats (read_frame (set p.bytes 9 b))
unfolding push_of
push-tenth p b h = rw h
