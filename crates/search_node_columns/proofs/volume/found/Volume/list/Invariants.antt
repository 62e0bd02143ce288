use Rattle.std.proofs.Common.{All, ◌<◌, length}
use Rattle.tree_pool.specs.Pools.{IsPool, IsGrown}
use Rattle.search_node_columns.proofs.volume.found.Volume.list.Given as goal

abbrev pub invariant-loop-found : goal.invariant-loop-found
invariant-loop-found l = record {
  pool : IsPool l.instance.grammar l.pool;
  grown : IsGrown l.initial.pool l.pool;
  numbers : All (λ c. c < length l.pool) l.numbers;
}
