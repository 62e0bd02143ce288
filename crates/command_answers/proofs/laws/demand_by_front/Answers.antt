use Rattle.command_answers.specs.DemandFronts.{instance-alike}
use Rattle.command_answers.proofs.laws.demand_by_front.Goals as goal

pub returns : goal.returns
returns c = instance-alike
