-- A sample is told of a delivery's bytes alone: they are printed of some reply, and of those only a delivery tells one.
use Rattle.std.proofs.Common.{◌≡◌, ℕ, List, [], ◌∷◌, Option, Some, None}
use Rattle.std.proofs.Common.{refl, sym, ap, ◌∙◌}
use Rattle.base.specs.Reply.{Reply, accepted, refused}
use Rattle.esc_answers.specs.Answer.{reply_bytes}
use Rattle.esc_answers.specs.declared.answer.Delivered.{Delivered}
use Rattle.esc_answers.specs.declared.answer.Answer.{Answer}
use Rattle.answer_lines.specs.Told.{told_by}
use Rattle.answer_lines.specs.Claims.{delivered_in, Printable, delivery_tells, DeliveredAs, OnlyDeliveries}
use Rattle.answer_lines.specs.declared.told.Told.TheVariants as told
use Rattle.answer_lines.proofs.DeliveredByLength.{delivered-by-length}
use Rattle.answer_lines.proofs.EveryAnswerTold.{refusal-told}
use Rattle.answer_lines.proofs.OnlyAnswers.{only-answers}

-- of a sample that is told, the reply that is printed so can be no refusal, and the answer delivers it
delivery-of : {s : List ℕ} {sample : List ℕ} (r : Reply Answer) → Printable r → reply_bytes r ≡ s → told_by s ≡ told.Sample sample
    → DeliveredAs s sample
unfolding reply_bytes
delivery-of {s} {sample} (accepted a) k e t = go (delivered_in a) refl (sym (delivered-by-length a k).tells ∙ ap told_by e ∙ t)
  where
    go : (d : Option Delivered) → delivered_in a ≡ d → delivery_tells d ≡ told.Sample sample → DeliveredAs s sample
    go None d is = absurd cc
    go (Some delivered) d is =
        record { answer = a; delivered = delivered; counts = k; bytes = e; delivers = d; is = cc }
delivery-of {s} {sample} (refused n) k e t =
    let other = refusal-told n k.1 in
    let here : told_by (n ∷ []) ≡ told.Sample sample = ap told_by e ∙ t in
    absurd cc

pub only-deliveries : OnlyDeliveries
only-deliveries s sample bytes t =
    let r = only-answers s bytes (λ none. let clash : told.Sample sample ≡ told.NoAnswer = sym t ∙ none in cc) in
    delivery-of r.reply r.printable r.bytes t
