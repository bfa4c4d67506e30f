-- Bytes handed over in a lent output, where they fit and where they do not; and copied to a place of it.
use Rattle.std.proofs.Common.{◌≡◌, ℕ, ◌+◌, ◌<◌, ◌≤◌, List, length, take, sym, ap, ◌∙◌, arith}
use Rattle.std.proofs.Common.{le-leb}
use borrow.Author.Tests.{lt-leb}
use Rattle.base.specs.Reply.{accepted, refused}
use Rattle.base.specs.BigEndian.{overwrite}
use Rattle.base.proofs.ByCases.{below_or_not}
use Rattle.base.proofs.BigEndianLaws.{overwrite-front}
use Rattle.base.specs.Handed.{handed_reply, handed_output, copied}

module _ (text out : List ℕ) where
  pub fits-reply : length text ≤ length out → handed_reply text (length out) ≡ accepted (length text)
  unfolding handed_reply
  fits-reply h = rw (le-leb (length text) (length out) h)

  pub fits-output : length text ≤ length out → handed_output text out ≡ overwrite 0 text out
  unfolding handed_output
  fits-output h = rw (le-leb (length text) (length out) h)

  pub short-reply : length out < length text → handed_reply text (length out) ≡ refused 9
  unfolding handed_reply
  short-reply h = rw (lt-leb (length text) (length out) h)

  pub short-output : length out < length text → handed_output text out ≡ out
  unfolding handed_output
  short-output h = rw (lt-leb (length text) (length out) h)

  -- and what the answer tells
  pub told-fits : (n : ℕ) → accepted n ≡ handed_reply text (length out) → length text ≤ length out
  told-fits n e =
      below_or_not (length out) (length text)
      (λ h.
      let q : accepted n ≡ refused 9 = e ∙ short-reply h in
      let z : ◌≡◌ {A = ℕ} 0 1 = cc in
      absurd (omega arith))
      (λ h. h)

  pub told-length : (n : ℕ) → accepted n ≡ handed_reply text (length out) → n ≡ length text
  told-length n e = let q : accepted n ≡ accepted (length text) = e ∙ fits-reply (told-fits n e) in cc

  pub told-within : (n : ℕ) → accepted n ≡ handed_reply text (length out) → n ≤ length out
  told-within n e = omega (arith, told-fits n e, told-length n e)

  -- the text stands in front of the output
  pub told_text : (out' : List ℕ) (n : ℕ) → accepted n ≡ handed_reply text (length out) → out' ≡ handed_output text out → take n out' ≡ text
  told_text out' n e o = ap (take n) (o ∙ fits-output (told-fits n e)) ∙ overwrite-front text out n (sym (told-length n e))

  pub told-space : {n : ℕ} → refused n ≡ handed_reply text (length out) → out ≡ handed_output text out
  told-space {n} e =
      below_or_not (length out) (length text)
      (λ h. sym (short-output h))
      (λ h.
      let q : refused n ≡ accepted (length text) = e ∙ fits-reply h in
      let z : ◌≡◌ {A = ℕ} 0 1 = cc in
      absurd (omega arith))

module _ (at : ℕ) (text out : List ℕ) where
  pub copied-fits : at + length text ≤ length out → copied at text out ≡ overwrite at text out
  unfolding copied
  copied-fits h = rw (le-leb (at + length text) (length out) h)

  pub copied-short : length out < at + length text → copied at text out ≡ out
  unfolding copied
  copied-short h = rw (lt-leb (at + length text) (length out) h)
