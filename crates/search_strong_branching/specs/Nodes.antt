-- Nodes whose splits are tried.
use Rattle.std.specs.Prelude.{◌≡◌, ◌≤◌, length}
use Rattle.model_rosters.specs.Folds.{Each}
use Rattle.model_rosters.specs.Limits.{IsSmallCut}
use Rattle.model_rosters.specs.SoundInstance.{IsSoundInstance}
use Rattle.law_bounds.specs.master_laws.Rows.{rows_of}
use Rattle.search_strong_branching.specs.declared.node.SplitNode.{SplitNode}

-- the instance is sound, the cuts are small, the master has 1,500 rows at most, and each arc has a count
pub record IsSplitNode (n : SplitNode) : Type 0 where
  pub sound : IsSoundInstance n.day.instance.now
  pub small : Each IsSmallCut n.cuts.now
  pub few : length (rows_of n.day.instance.now n.cuts.now) ≤ 1500
  pub bounds : length n.arc_box.now.bounds ≡ length n.day.graph.now.arcs
