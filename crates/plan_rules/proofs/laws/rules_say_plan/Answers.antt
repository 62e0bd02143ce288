use Rattle.plan_rules.proofs.Says.{says_law}
use Rattle.plan_rules.proofs.laws.rules_say_plan.Goals as goal

pub returns : goal.returns
returns c = says_law
