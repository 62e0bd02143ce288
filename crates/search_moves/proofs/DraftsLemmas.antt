-- Drafts over a growing pool.
use Rattle.std.proofs.Common.{List, length}
use Rattle.model_rosters.specs.declared.instance.Instance.{Instance}
use Rattle.tree_pool.specs.Pools.{PoolTree, IsGrown}
use Rattle.tree_pool.proofs.PoolGrowth.{grown-length, more-columns}
use Rattle.search_moves.specs.declared.draft.Draft.{Draft}
use Rattle.search_moves.specs.Drafts.{IsDraft}

pub grown-draft : (i : Instance) (old new : List PoolTree) (d : Draft) → IsGrown old new → IsDraft i (length old) d → IsDraft i (length new) d
grown-draft i old new d grown is = record {
  columns = more-columns (length old) (length new) d.columns.items (grown-length old new grown) is.columns;
  counts = is.counts;
  savings = is.savings;
  room = is.room;
}
