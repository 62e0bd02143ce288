use Rattle.page_csv.specs.Coverages.{head_row}
use Rattle.page_csv.proofs.coverage.add_head.Goals as goal

pub returns : goal.returns
unfolding head_row
returns c = c.add_row.ensures
