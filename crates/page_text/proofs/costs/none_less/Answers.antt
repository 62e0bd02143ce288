use Rattle.page_text.specs.Costs.{none_less}
use Rattle.page_text.proofs.costs.none_less.Goals as goal

pub returns : goal.returns
unfolding none_less
returns c = c.marks.ensures
