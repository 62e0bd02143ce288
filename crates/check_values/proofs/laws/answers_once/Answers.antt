use Rattle.check_values.proofs.OneAnswer.{stated-once}
use Rattle.check_values.proofs.laws.answers_once.Goals as goal

pub returns : goal.returns
returns c = stated-once
