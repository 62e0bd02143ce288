use Rattle.rows_search.proofs.ListedCuts.{listed-cuts}
use Rattle.rows_search.proofs.masters.are_node_cuts.Goals as goal

pub returns-then-cuts-clause-cuts : goal.returns-then-cuts-clause-cuts
returns-then-cuts-clause-cuts c = λ t. listed-cuts c.args.day.now c.args.graph.now c.args.cuts.now c.requires (c.are_listed_cuts.ensures t)
