use Rattle.plan_meaning.proofs.WorkedRows.{worked_times as law}
use Rattle.plan_meaning.proofs.laws.worked_times.Goals as goal

pub returns : goal.returns
returns c = law
