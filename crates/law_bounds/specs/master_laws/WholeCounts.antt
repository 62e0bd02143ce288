-- Solutions of a master in which the trees with each arc weigh a whole number together.
use Rattle.std.specs.Prelude.{ℕ, pos, ◌≡◌, ◌≤◌, ◌*◌, ◌*ℤ◌, ◌≤ℤ◌, List}
use Rattle.model_rosters.specs.declared.grammar.ArcKey.{ArcKey}
use Rattle.model_rosters.specs.declared.instance.Cut.{Cut}
use Rattle.model_rosters.specs.declared.instance.Instance.{Instance}
use Rattle.model_rosters.specs.Trees.{Parts}
use Rattle.model_rosters.specs.Folds.{Each, In}
use Rattle.model_rosters.specs.Cuts.{Meets}
use Rattle.model_rosters.specs.arc_laws.Lists.{AreArcs}
use Rattle.model_rosters.specs.arc_laws.Balance.{IsBalanced}
use Rattle.law_bounds.specs.linear_programs.Solution.{Weighted, IsSolution, cost_of}
use Rattle.law_bounds.specs.TreeRosters.{IsTreeRoster, trees_cost}
use Rattle.law_bounds.specs.master_laws.Master.{MasterKey, master}
use Rattle.law_bounds.specs.master_laws.Sharp.{arc_weight}

-- the arcs of the instance have these whole weights
pub record HasCounts (i : Instance) (cuts : List Cut) (ws : List (Weighted MasterKey)) (q : ℕ)
    (listed : List ArcKey) (value : ArcKey → ℕ) : Type 0 where
  pub solution : IsSolution (master i cuts) ws q
  pub arcs : AreArcs i.grammar listed
  pub whole : (a : ArcKey) → In a listed → arc_weight a ws ≡ q * value a

-- such counts can be split into trees
pub record CanBeSplit (i : Instance) (listed : List ArcKey) (value : ArcKey → ℕ) : Type 0 where
  pub balanced : IsBalanced i.grammar listed value
  pub few : (a : ArcKey) → In a listed → value a ≤ i.heads_max

-- trees with the number and the coverage of an allowed roster, that meet the cuts and cost no more than the solution
pub record MeetNode (i : Instance) (cuts : List Cut) (ws : List (Weighted MasterKey)) (q : ℕ)
    (ts : List Parts) : Type 0 where
  pub roster : IsTreeRoster i ts
  pub meets : Each (Meets ts) cuts
  pub cost : (pos q *ℤ pos (trees_cost i ts)) ≤ℤ cost_of (master i cuts).column ws
