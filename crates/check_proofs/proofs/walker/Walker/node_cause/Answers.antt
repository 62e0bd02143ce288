use Rattle.check_proofs.specs.Views.{own_prices}
use Rattle.check_proofs.proofs.walker.Walker.node_cause.Goals as goal

pub returns-in-Split : goal.returns-in-Split
returns-in-Split c = rw c.in-Split.is (c.split_cause.ensures (own_prices c.in-Split.prices))
