-- The next line, read from the chunk where it stands or as it is held.
use Rattle.std.proofs.Common.{◌≡◌, ℕ, ◌+◌, ◌*◌, ◌≤◌, ◌<◌, List, [], ◌++◌, Result, length, get_or, take, refl, ap, ◌∙◌, arith, length-append}
use Rattle.std.proofs.lemmas.List.{length-take-le}
use Rattle.std.specs.Borrow.{Bor}
use Rattle.base.specs.Reply.{accepted}
use Rattle.base.specs.declared.refusal.Refusal.{Refusal}
use Rattle.hex_lines.specs.Line.{line_end, read_line, line_read, longest_record, most_held, PairsRead}
use Rattle.hex_lines.specs.NextLine.{first_line, LineEnded, ReadInPlace}
use Rattle.hex_lines.proofs.PairsLaws.{unended-digits}
use Rattle.hex_lines.proofs.LineLaws.{read_whole}
use Rattle.hex_lines.proofs.HeldLaws.{enough-line}
use Rattle.hex_lines.proofs.FirstLine.{FirstEnds, first_before}

-- LF follows the digits that were read
pub read_in_place : {chunk bytes rest : List ℕ} {n : ℕ} → PairsRead chunk (take n bytes) rest → n ≤ longest_record → n ≤ length bytes
    → 0 < length rest → get_or rest 0 0 ≡ line_end → ReadInPlace chunk n bytes
read_in_place {chunk} {bytes} {rest} {n} k fits room some lf =
    let first : first_line chunk ≡ k.front = rw k.parts (first_before k.front rest (unended-digits k.front k.digits) some lf) in
    let even : length k.front ≡ 2 * n = k.even ∙ ap (λ (m : ℕ). 2 * m) (length-take-le n bytes room) in
    record {
      ends = rw (first, k.parts) (omega (arith, length-append k.front rest));
      long = rw first even;
      fits = fits;
      read = rw first (read_whole k.front (omega arith) k.digits (omega arith) ∙ ap accepted k.read);
    }

-- a line is read where it stands, if nothing of it is held
pub ended-whole : {begun chunk : List ℕ} {n : ℕ} → FirstEnds chunk n → begun ≡ []
    → (read : Result (Bor (List ℕ)) Refusal) → line_read read ≡ read_line (take n chunk) → LineEnded begun chunk (record { read = read; behind = n + 1 })
ended-whole first none read e =
    record {
      ends = omega (arith, first.length_is, first.within);
      behind = omega (arith, first.length_is);
      read = e ∙ rw (none, first.front) refl;
    }

-- a line is read as it is held
pub ended-held : {begun chunk held : List ℕ} {n : ℕ} → FirstEnds chunk n → held ≡ take most_held (begun ++ take n chunk)
    → (read : Result (Bor (List ℕ)) Refusal) → line_read read ≡ read_line held → LineEnded begun chunk (record { read = read; behind = n + 1 })
ended-held {begun} {chunk} {held} {n} first holds read e =
    record {
      ends = omega (arith, first.length_is, first.within);
      behind = omega (arith, first.length_is);
      read = e ∙ rw (holds, first.front) (enough-line (begun ++ first_line chunk));
    }
