use Rattle.check_values.specs.Answers as answers
use Rattle.check_values.proofs.ValuedRosters.{value-costs}
use Rattle.check_values.proofs.answer.value_answer.Goals as goal

pub returns : goal.returns
returns c =
    answers.allowed c.in_ok-value_text.field-0
    (record { value = c.args.value.now; is = c.requires.value; costs = value-costs c.args.instance.now c.args.shifts.now c.args.value.now c.requires.value; text = c.in_ok-value_text.ensures })
