use Rattle.page_text.specs.Costs.{unknown}
use Rattle.page_text.proofs.costs.unknown.Goals as goal

pub returns : goal.returns
unfolding unknown
returns c = c.marks.ensures
