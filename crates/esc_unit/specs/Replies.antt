-- Document 01's number, and the value, for the reply of `step`.
use Rattle.base.specs.Reply.{replied}
use Rattle.esc_unit.specs.Unit.{Replied}
use Rattle.esc_answers.specs.declared.answer.Answer.{Answer}
use Rattle.esc_unit.specs.declared.unit.Called.{Called}

abbrev pub step_replied : Called Answer → Replied
step_replied s = record { unit = s.unit; reply = replied s.reply }
