-- What it takes to find rosters: a pool of trees, and a workspace.
use Rattle.std.specs.Prelude.{List}
use Rattle.tree_pool.specs.Pools.{PoolTree, IsPool}
use Rattle.lp_master_rows.specs.declared.search_day.day.Day.{Day}
use Rattle.lp_master_rows.specs.search_day.Rooms.{Grows}
use Rattle.search_candidates.specs.declared.workspace.RosterWorkspace.{RosterWorkspace}
use Rattle.search_candidates.specs.Rosters.{IsWorkspaceFor}

-- the trees are the day's, and the workspace is the instance's
pub record AreTools (d : Day) (trees : List PoolTree) (k : RosterWorkspace) : Type 0 where
  pub pool : IsPool d.instance.now.grammar trees
  pub workspace : IsWorkspaceFor d.instance.now k

-- they still are, and the old trees kept their numbers
pub record StayTools (d : Day) (old new : List PoolTree) (k : RosterWorkspace) : Type 0 where
  pub pool : Grows d old new
  pub workspace : IsWorkspaceFor d.instance.now k
