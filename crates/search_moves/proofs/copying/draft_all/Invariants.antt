use Rattle.std.proofs.Common.{length}
use Rattle.tree_pool.specs.Pools.{IsPool}
use Rattle.search_moves.specs.Drafts.{IsDraft}
use Rattle.search_moves.proofs.copying.draft_all.Given as goal

abbrev pub invariant-loop-column : goal.invariant-loop-column
invariant-loop-column l = record {
  to : IsPool l.day.instance.now.grammar l.to;
  draft : IsDraft l.day.instance.now (length l.to) l.draft;
}
