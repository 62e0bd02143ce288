-- Nodes that leave some arc more than one count.
use Rattle.std.specs.Prelude.{◌≤◌, List, length}
use Rattle.model_rosters.specs.declared.instance.Cut.{Cut}
use Rattle.model_rosters.specs.declared.instance.Instance.{Instance}
use Rattle.model_rosters.specs.Folds.{Each}
use Rattle.model_rosters.specs.Limits.{IsSmallCut}
use Rattle.law_bounds.specs.master_laws.Rows.{rows_of}
use Rattle.search_arc_counts.specs.count_boxes.Paths.{IsBoxOf, IsLooseAt}
use Rattle.search_primal.specs.declared.open_node.OpenNode.{OpenNode}
use Rattle.search_primal.specs.Jobs.{IsSearchedDay}

-- the box has the counts that the cuts leave the arcs of the day, and these leave the arc more than one
pub record IsOpenNode (n : OpenNode) : Type 0 where
  pub searched : IsSearchedDay n.searched
  pub left : IsBoxOf n.searched.day.instance.now n.searched.day.graph.now n.cuts.now n.arc_box.now
  pub loose : IsLooseAt n.searched.day.instance.now n.searched.day.graph.now n.cuts.now n.loose

-- the cuts have small bounds, and there are few rows
pub record IsSmall (i : Instance) (cuts : List Cut) : Type 0 where
  pub each : Each IsSmallCut cuts
  pub few : length (rows_of i cuts) ≤ 1500
