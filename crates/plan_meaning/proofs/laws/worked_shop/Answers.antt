use Rattle.plan_meaning.proofs.WorkedRows.{worked_shop as law}
use Rattle.plan_meaning.proofs.laws.worked_shop.Goals as goal

pub returns : goal.returns
returns c = law
