-- What passes work on.
use Rattle.std.specs.Prelude.{◌≡◌, length}
use Rattle.tree_cheapest.specs.Pricers.{PricerView}
use Rattle.lp_master_rows.specs.declared.node_task.task.NodeTask.{NodeTask}
use Rattle.lp_master_rows.specs.node_task.Tasks.{row_count}
use Rattle.search_node_columns.specs.Tools.{AreTools}
use Rattle.search_node_columns.specs.declared.volume.workspace.VolumeWorkspace.{VolumeWorkspace}

-- the pricer, the trees and their columns are those of the node, and there is a price for each of its rows
pub record IsVolumeWorkspace (t : NodeTask) (p : PricerView) (k : VolumeWorkspace) : Type 0 where
  pub tools : AreTools t p k.pool k.columns
  pub path : length k.path.asked.items ≡ row_count t
