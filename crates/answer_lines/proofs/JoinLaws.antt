-- A list is its parts, one behind the other: what is built from a place on is the list from there.
use Rattle.std.proofs.Common.{◌≡◌, ℕ, ◌+◌, ◌≤◌, ◌<◌, List, [], ◌∷◌, ◌++◌, length, get_or, drop, sym, ◌∙◌, arith}
use Rattle.std.proofs.Common.{add-one, length-drop, take-append-drop, drop-drop, drop-cons}
use Rattle.std.proofs.lemmas.List.{take_all}
use lib.ListN.{drop_of_length-le}
use Rattle.base.specs.BigEndian.{number_at, bytes_of}
use Rattle.base.proofs.BigEndianLaws.{bytes-number}

module _ (s : List ℕ) where
  pub byte-behind : (at b : ℕ) {rest : List ℕ} → at < length s → get_or s at 0 ≡ b → rest ≡ drop (at + 1) s → b ∷ rest ≡ drop at s
  byte-behind at b h e r = rw (drop-cons s at 0 h, e, r, add-one at)

  module _ (byte : (i : ℕ) → get_or s i 0 < 256) (k at : ℕ) where
    pub run-behind : {rest : List ℕ} → at + k ≤ length s → rest ≡ drop (at + k) s → bytes_of k (number_at k s at) ++ rest ≡ drop at s
    run-behind h r = rw (bytes-number k s at byte h, r, ← drop-drop k at s) (take-append-drop k (drop at s))

    pub run-last : at + k ≡ length s → bytes_of k (number_at k s at) ≡ drop at s
    run-last h = bytes-number k s at byte (omega arith) ∙ take_all k (drop at s) (omega (arith, length-drop at s))

  pub none-behind : (at : ℕ) → length s ≤ at → [] ≡ drop at s
  none-behind at h = sym (drop_of_length-le s h)
