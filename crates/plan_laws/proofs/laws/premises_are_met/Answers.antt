use Rattle.plan_laws.proofs.Small.{are_met}
use Rattle.plan_laws.proofs.laws.premises_are_met.Goals as goal

pub returns : goal.returns
returns c = are_met
