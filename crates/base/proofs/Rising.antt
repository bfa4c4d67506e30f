-- Bytes that rise by one: with them no two bytes of a case are equal, so that nothing in it can change places unseen.
use Rattle.std.proofs.Common.{ℕ, zero, suc, List, [], ◌∷◌}

-- n bytes from b on: `rising 4 0x11` is 11 12 13 14
abbrev pub rising : ℕ → ℕ → List ℕ
rising zero b = []
rising (suc n) b = b ∷ rising n (suc b)
