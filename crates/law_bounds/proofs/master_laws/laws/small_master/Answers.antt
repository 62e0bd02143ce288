use Rattle.law_bounds.proofs.master_laws.RowSizes.{small}
use Rattle.law_bounds.proofs.master_laws.laws.small_master.Goals as goal

pub returns : goal.returns
returns c = λ i cuts sound below. small i sound cuts below
