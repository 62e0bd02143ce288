use Rattle.command_answers.specs.RulesFronts.{reading-whole, reading-front}
use Rattle.command_answers.proofs.laws.rules_by_front.Goals as goal

pub returns : goal.returns
returns c = λ text r. (reading-whole text r, reading-front text r)
