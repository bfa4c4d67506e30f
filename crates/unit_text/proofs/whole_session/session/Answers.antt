-- The answers are counted, and are written where they fit.
use Rattle.std.proofs.Common.{sym, ◌∙◌}
use Rattle.base.proofs.HandLaws.{fits-output, told-fits, told-space}
use Rattle.unit_text.specs.Session.{session_text}
use Rattle.unit_text.proofs.whole_session.session.Goals as goal

pub write_answers-requires : goal.write_answers-requires
write_answers-requires c = told-fits (session_text c.args.text.now) c.args.out.now _ c.in_ok-count.ensures

pub returns-in_err-count-clause-out_after : goal.returns-in_err-count-clause-out_after
returns-in_err-count-clause-out_after c = told-space (session_text c.args.text.now) c.args.out.now c.in_err-count.ensures

pub returns-clause-out_after : goal.returns-clause-out_after
returns-clause-out_after c = let text = session_text c.args.text.now in
    let out = c.args.out.now in
    c.write_answers.ensures ∙ sym (fits-output text out (told-fits text out _ c.in_ok-count.ensures))
