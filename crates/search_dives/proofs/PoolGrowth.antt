-- Trees of a growing pool.
use Rattle.std.proofs.Common.{List, ◌++◌, length, ap, ◌∙◌}
use Rattle.std.proofs.lemmas.List.{append_assoc}
use Rattle.tree_short_order.specs.declared.short_order.ShortOrder.{ShortOrder}
use Rattle.lp_master_rows.specs.declared.node_task.task.NodeTask.{NodeTask}
use Rattle.tree_pool.specs.Pools.{PoolTree, IsGrown}
use Rattle.tree_pool.proofs.PoolGrowth.{grown-length, more-columns}
use Rattle.search_dives.specs.declared.workspace.DiveWorkspace.{DiveWorkspace}
use Rattle.search_dives.specs.declared.program.Program.{Program}
use Rattle.search_dives.specs.Parts.{IsProgram, StayTools}

pub grown-program : (old new : List PoolTree) (p : Program) → IsGrown old new → IsProgram (length old) p → IsProgram (length new) p
grown-program old new p grown is = more-columns (length old) (length new) p.fixed (grown-length old new grown) is

-- what stays after a pool has grown stays since before
pub stay-after : (t : NodeTask) (p : ShortOrder) (old mid new : List PoolTree) (d : DiveWorkspace) → IsGrown old mid → StayTools t p mid new d → StayTools t p old new d
stay-after t p old mid new d grown stay = record {
  are = stay.are;
  grown = (grown.0 ++ stay.grown.0, stay.grown.1 ∙ ap (λ (xs : List PoolTree). xs ++ stay.grown.0) grown.1 ∙ append_assoc old grown.0 stay.grown.0);
}
