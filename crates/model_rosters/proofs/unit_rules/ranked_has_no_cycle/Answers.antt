use Rattle.model_rosters.proofs.StepRules.{no_cycle}
use Rattle.model_rosters.proofs.unit_rules.ranked_has_no_cycle.Goals as goal

pub returns : goal.returns
returns c = λ g rank names ranked x cycle. no_cycle g rank names ranked x cycle
