use Rattle.plan_rules.proofs.WrittenLemmas.{written_law}
use Rattle.plan_rules.proofs.laws.rules_are_written.Goals as goal

pub returns : goal.returns
returns c = written_law
