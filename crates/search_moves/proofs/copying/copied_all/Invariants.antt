use Rattle.std.proofs.Common.{All, ◌<◌, length}
use Rattle.tree_pool.specs.Pools.{IsPool, IsGrown}
use Rattle.search_moves.proofs.copying.copied_all.Given as goal

abbrev pub invariant-loop-column : goal.invariant-loop-column
invariant-loop-column l = record {
  to : IsPool l.day.instance.now.grammar l.to;
  grown : IsGrown l.fn.to l.to;
  found : All (λ c. c < length l.to) l.found;
}
