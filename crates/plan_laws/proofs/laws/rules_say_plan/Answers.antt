use Rattle.plan_laws.proofs.WholeRules.{rules_law}
use Rattle.plan_laws.proofs.laws.rules_say_plan.Goals as goal

pub returns : goal.returns
returns c = rules_law
