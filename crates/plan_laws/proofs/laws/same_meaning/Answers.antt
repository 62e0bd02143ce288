use Rattle.plan_laws.proofs.Turning.{turning_law}
use Rattle.plan_laws.proofs.laws.same_meaning.Goals as goal

pub returns : goal.returns
returns c = turning_law
