use Rattle.std.proofs.Common.{◌≡◌}
use Rattle.model_rosters.specs.Room.{most_uses}
use Rattle.tree_cheapest.specs.Pricers.{IsMadeFor}
use Rattle.tree_pool.specs.Pools.{IsPool, IsGrown}
use Rattle.search_moves.specs.Tools.{AreColumns, IsFoundIn}
use Rattle.search_moves.proofs.words.add_words.Given as goal

abbrev pub invariant-loop-place : goal.invariant-loop-place
invariant-loop-place l = record {
  pricer : IsMadeFor l.day.graph.now l.pricer;
  room : l.room.most ≡ most_uses l.day.instance.now.grammar;
  pool : IsPool l.day.instance.now.grammar l.pool;
  grown : IsGrown l.fn.pool l.pool;
  last : IsFoundIn l.pool l.last;
  columns : AreColumns l.pool l.columns;
}
