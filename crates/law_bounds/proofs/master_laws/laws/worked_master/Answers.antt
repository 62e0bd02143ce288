use Rattle.law_bounds.proofs.master_laws.Worked.{worked_master}
use Rattle.law_bounds.proofs.master_laws.laws.worked_master.Goals as goal

pub returns : goal.returns
returns c = worked_master
