use Rattle.page_text.specs.Costs.{none_allowed}
use Rattle.page_text.proofs.costs.none_allowed.Goals as goal

pub returns : goal.returns
unfolding none_allowed
returns c = c.marks.ensures
