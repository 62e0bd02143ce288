-- Trees that are listed one after the other at the same prices.
use Rattle.std.specs.Prelude.{◌≡◌, List, [], ◌++◌}
use mathlib.Core.Path.{sym, ap, ◌∙◌}
use mathlib.Core.List.{append_assoc, append-nil}
use Rattle.tree_cheapest.specs.Pricers.{PricerView}
use Rattle.tree_pool.specs.Pools.{PoolTree, IsGrown}
use Rattle.lp_master_rows.specs.declared.node_task.task.NodeTask.{NodeTask}
use Rattle.search_node_columns.specs.declared.workspace.ColumnWorkspace.{ColumnWorkspace}
use Rattle.search_node_columns.specs.Several.{HasBegun, StayPriced}
use Rattle.search_node_columns.specs.Tools.{StayTools}

pub stay-begun : (t : NodeTask) (p : PricerView) (a : List PoolTree) (d : ColumnWorkspace) → HasBegun t p a d → StayPriced t p a a d
stay-begun t p a d h = record { begun = h; grown = ([], sym (append-nil a)) }

pub stay-more : (t : NodeTask) (p : PricerView) (a b c : List PoolTree) (d e : ColumnWorkspace) → StayPriced t p a b d → StayPriced t p b c e → StayPriced t p a c e
stay-more t p a b c d e h k = record {
  begun = k.begun;
  grown = (h.grown.0 ++ k.grown.0, k.grown.1 ∙ ap (λ xs. xs ++ k.grown.0) h.grown.1 ∙ append_assoc a h.grown.0 k.grown.0);
}

pub stay-tools : (t : NodeTask) (p : PricerView) (a b : List PoolTree) (d : ColumnWorkspace) → StayPriced t p a b d → StayTools t p a b d
stay-tools t p a b d h = record { are = h.begun.tools; grown = h.grown }
