use Rattle.check_values.specs.Answers as answers
use Rattle.check_values.proofs.answer.causes_answer.Goals as goal

pub returns : goal.returns
returns c = answers.refused c.in_ok-causes_output.field-0 (record { causes = c.args.causes.now; are = c.requires.causes; text = c.in_ok-causes_output.ensures })
