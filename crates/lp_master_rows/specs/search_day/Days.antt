-- Days that are searched.
use Rattle.model_rosters.specs.SoundInstance.{IsSoundInstance}
use Rattle.tree_graph.specs.Graphs.{IsGraph}
use Rattle.lp_master_rows.specs.declared.search_day.day.Day.{Day}

-- the instance is sound, and the graph is its own
pub record IsDay (d : Day) : Type 0 where
  pub sound : IsSoundInstance d.instance.now
  pub graph : IsGraph d.instance.now.grammar d.graph.now
