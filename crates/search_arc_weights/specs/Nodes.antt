-- Nodes that are solved.
use Rattle.lp_master_rows.specs.search_day.Days.{IsDay}
use Rattle.search_arc_counts.specs.count_boxes.Paths.{IsBoxOf}
use Rattle.tree_pool.specs.Pools.{IsPool}
use Rattle.search_masters.specs.Ends.{AreSolved}
use Rattle.search_arc_weights.specs.declared.node.SolvedNode.{SolvedNode}
use Rattle.search_arc_weights.specs.declared.weighed.Weighed.{Weighed}
use Rattle.search_arc_weights.specs.Weighed.{IsWeighed}

-- the box is that of the cuts, the pool is the day's, and the weights are those of the node's solution
pub record IsSolvedNode (n : SolvedNode) : Type 0 where
  pub day : IsDay n.day
  pub left : IsBoxOf n.day.instance.now n.day.graph.now n.cuts.now n.arc_box.now
  pub pool : IsPool n.day.instance.now.grammar n.pool.now
  pub weights : AreSolved n.solution n.day.instance.now n.cuts.now n.pool.now n.weights.now

-- what the answer says of its solution
abbrev pub IsWeighedNode : SolvedNode → Weighed → Type 0
IsWeighedNode n answer =
    IsWeighed n.day.instance.now n.day.graph.now n.cuts.now n.pool.now n.weights.now n.solution answer
