use Rattle.law_bounds.proofs.TreeCosts.{trees_cost-le}
use Rattle.law_bounds.proofs.laws.trees_cost_less.Goals as goal

pub returns : goal.returns
returns c = λ i ts sound roster. trees_cost-le i sound.grammar.ranks.0 sound.grammar.ranks.1 ts roster
