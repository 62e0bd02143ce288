use Rattle.tree_pool.specs.grammar_core.Adding.{AreOrdered}
use Rattle.tree_pool.proofs.grammar_core.order.add_ranks.Given as goal
use Rattle.model_rosters.specs.tree_laws.RankOrder.{IsDone}

abbrev pub invariant-loop-turn : goal.invariant-loop-turn
invariant-loop-turn l = AreOrdered l.ranks l.names (IsDone l.ranks l.names l.turn) l.order
