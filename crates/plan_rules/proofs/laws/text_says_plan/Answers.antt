use Rattle.plan_rules.proofs.TextSaysLemmas.{text_law}
use Rattle.plan_rules.proofs.laws.text_says_plan.Goals as goal

pub returns : goal.returns
returns c = text_law
