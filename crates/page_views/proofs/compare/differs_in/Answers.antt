use Rattle.page_views.proofs.CompareLemmas.{differs_is}
use Rattle.page_views.proofs.compare.differs_in.Goals as goal

pub returns : goal.returns
returns c = differs_is c.args.before.now c.args.after.now c.args.period c.is_different.result c.is_different.ensures
