-- Each answer is told as one by its form, and each refusal by its number.
use Rattle.std.proofs.Common.{◌≡◌, ℕ, ◌≤◌, Option, Some, None, [], ◌∷◌, sym, ◌∙◌, arith}
use Rattle.std.proofs.lemmas.Bool.Decides.{nat_tests}
use Rattle.base.specs.Reply.{accepted, refused}
use Rattle.esc_answers.specs.Answer.{reply_bytes}
use Rattle.esc_answers.specs.declared.answer.Delivered.{Delivered}
use Rattle.answer_lines.specs.Form.{has_form, fits_one}
use Rattle.answer_lines.specs.Told.{told_by}
use Rattle.answer_lines.specs.Claims.{delivered_in, delivery_tells, EveryAnswerTold}
use Rattle.answer_lines.specs.declared.told.Told.TheVariants as told
use Rattle.answer_lines.proofs.DeliveredByLength.{delivered-by-length}

delivery-told : (d : Option Delivered) → delivery_tells d ≡ told.NoAnswer → ⊥
delivery-told None e = cc
delivery-told (Some d) e = cc

pub refusal-told : (n : ℕ) → n ≤ 12 → told_by (n ∷ []) ≡ told.Other
unfolding told_by has_form fits_one
refusal-told n h = grind (arith, nat_tests)

pub every-answer-told : EveryAnswerTold
unfolding reply_bytes
every-answer-told (accepted a) k e = delivery-told (delivered_in a) (sym (delivered-by-length a k).tells ∙ e)
every-answer-told (refused n) k e = let other = refusal-told n k.1 in cc
