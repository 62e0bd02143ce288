use Rattle.tree_pool.specs.grammar_core.Adding.{AreOrdered}
use Rattle.tree_pool.proofs.grammar_core.order.add_rank.Given as goal
use Rattle.model_rosters.specs.tree_laws.RankOrder.{IsPlaced}

abbrev pub invariant-loop-name : goal.invariant-loop-name
invariant-loop-name l = AreOrdered l.ranks l.names (IsPlaced l.ranks l.rank 0) l.initial.order → AreOrdered l.ranks l.names (IsPlaced l.ranks l.rank l.name) l.order
