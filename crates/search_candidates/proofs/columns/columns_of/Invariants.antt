use Rattle.std.proofs.Common.{take}
use Rattle.tree_pool.specs.Pools.{IsPool, IsGrown}
use Rattle.search_candidates.proofs.PoolNumbers.{HaveSteps}
use Rattle.search_candidates.proofs.columns.columns_of.Given as goal

abbrev pub invariant-loop-tree : goal.invariant-loop-tree
invariant-loop-tree l = record {
  pool : IsPool l.grammar l.pool;
  grown : IsGrown l.fn.pool l.pool;
  have : HaveSteps l.pool l.columns (take l.tree-index l.trees);
}
