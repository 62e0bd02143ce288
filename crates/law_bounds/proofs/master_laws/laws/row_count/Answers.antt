use Rattle.law_bounds.proofs.master_laws.RowSizes.{row_count}
use Rattle.law_bounds.proofs.master_laws.laws.row_count.Goals as goal

pub returns : goal.returns
returns c = row_count
