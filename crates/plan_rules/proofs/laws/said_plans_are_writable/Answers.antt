use Rattle.plan_rules.proofs.SaidLemmas.{said_law}
use Rattle.plan_rules.proofs.laws.said_plans_are_writable.Goals as goal

pub returns : goal.returns
returns c = said_law
