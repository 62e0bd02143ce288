-- What a search works on.
use Rattle.std.specs.Prelude.{◌≡◌, Option, IfSome, List}
use Rattle.model_rosters.specs.declared.instance.Instance.{Instance}
use Rattle.model_rosters.specs.Cuts.{base_cuts}
use Rattle.tree_pool.specs.Pools.{PoolTree, IsPool}
use Rattle.lp_master_rows.specs.declared.search_day.day.Day.{Day}
use Rattle.lp_master_rows.specs.search_day.Rooms.{ArePricing, Grows}
use Rattle.search_candidates.specs.declared.workspace.RosterWorkspace.{RosterWorkspace}
use Rattle.search_candidates.specs.declared.roster.Roster.{Roster}
use Rattle.search_candidates.specs.Rosters.{IsGoodRoster, IsWorkspaceFor}
use Rattle.search_candidates.specs.Offers.{IsBetter}
use Rattle.search_moves.specs.ShortPricings.{AreShortPricing}
use Rattle.search_arc_counts.specs.node_path.Paths.{IsPath}
use Rattle.search_primal.specs.declared.workspace.SearchWorkspace.{SearchWorkspace}
use Rattle.search_primal.specs.declared.workspace.SearchBench.{SearchBench}

-- the workspace was made for the day, with room for the prices of 1,500 multipliers
pub record IsWorkspace (d : Day) (k : SearchWorkspace) : Type 0 where
  pub pricing : ArePricing d k.pricing
  pub most : k.pricing.room.most ≡ 1500
  pub rosters : IsWorkspaceFor d.instance.now k.rosters
  pub moves : AreShortPricing d k.moves

-- the trees are the day's, and so is the workspace
pub record AreTools (d : Day) (trees : List PoolTree) (k : SearchWorkspace) : Type 0 where
  pub pool : IsPool d.instance.now.grammar trees
  pub workspace : IsWorkspace d k

-- they still are, and the old trees kept their numbers
pub record StayTools (d : Day) (old new : List PoolTree) (k : SearchWorkspace) : Type 0 where
  pub pool : Grows d old new
  pub workspace : IsWorkspace d k

-- the path is one of the day's graph
abbrev pub IsPathOf : Day → SearchBench → Type 0
IsPathOf d b = IsPath d.instance.now d.graph.now b.path

-- the trees and the workspace are the day's, and the path is one of its graph
pub record IsBench (d : Day) (trees : List PoolTree) (b : SearchBench) : Type 0 where
  pub tools : AreTools d trees b.workspace
  pub path : IsPath d.instance.now d.graph.now b.path

-- they still are
pub record StayBench (d : Day) (old new : List PoolTree) (b : SearchBench) : Type 0 where
  pub tools : StayTools d old new b.workspace
  pub path : IsPath d.instance.now d.graph.now b.path

-- the bench was made for the day, and its path is that of the root
pub record IsNewBench (d : Day) (b : SearchBench) : Type 0 where
  pub workspace : IsWorkspace d b.workspace
  pub path : IsPath d.instance.now d.graph.now b.path
  pub root : b.path.cuts ≡ base_cuts d.instance.now

-- it stands at the root
pub record IsRootBench (d : Day) (trees : List PoolTree) (b : SearchBench) : Type 0 where
  pub is : IsBench d trees b
  pub root : b.path.cuts ≡ base_cuts d.instance.now

-- rosters are judged for the instance, and the best one is allowed
pub record CanOffer (i : Instance) (k : RosterWorkspace) (best : Option Roster) : Type 0 where
  pub rosters : IsWorkspaceFor i k
  pub good : IfSome best (IsGoodRoster i)

-- rosters still are, and the best one gave way to none that costs more
pub record HasOffered (i : Instance) (k : RosterWorkspace) (old new : Option Roster) : Type 0 where
  pub rosters : IsWorkspaceFor i k
  pub better : IsBetter i old new

-- the workspace still is the day's, and the best roster gave way to none that costs more
pub record HasTried (d : Day) (k : SearchWorkspace) (best later : Option Roster) : Type 0 where
  pub workspace : IsWorkspace d k
  pub better : IsBetter d.instance.now best later

-- the trees and the workspace are the day's, and the best roster is allowed
pub record CanFind (d : Day) (trees : List PoolTree) (k : SearchWorkspace) (best : Option Roster) : Type 0 where
  pub tools : AreTools d trees k
  pub good : IfSome best (IsGoodRoster d.instance.now)

-- they still are, the old trees kept their numbers, and the best roster gave way to none that costs more
pub record HasFound (d : Day) (old new : List PoolTree) (k : SearchWorkspace) (best later : Option Roster) : Type 0 where
  pub tools : StayTools d old new k
  pub better : IsBetter d.instance.now best later
