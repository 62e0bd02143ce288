use Rattle.plan_by_names.proofs.Names.{names_law}
use Rattle.plan_by_names.proofs.laws.names_hold_all.Goals as goal

pub returns : goal.returns
returns c = names_law
