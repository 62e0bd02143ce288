-- The best roster so far, and rosters from counts.
use Rattle.std.specs.Prelude.{ℕ, ◌≡◌, ◌≤◌, ◌⊎◌, Option, None, Some, IfSome, List, length}
use Rattle.model_rosters.specs.declared.grammar.ArcKey.{ArcKey}
use Rattle.model_rosters.specs.declared.instance.Cut.{Cut}
use Rattle.model_rosters.specs.declared.instance.Instance.{Instance}
use Rattle.model_rosters.specs.Cuts.{Meets, base_cuts}
use Rattle.model_rosters.specs.Folds.{Each}
use Rattle.model_rosters.specs.Trees.{Parts}
use Rattle.model_rosters.specs.arc_laws.Lists.{AreArcs}
use Rattle.model_rosters.specs.arc_laws.Balance.{IsBalanced}
use Rattle.law_bounds.specs.linear_programs.Solution.{Weighted}
use Rattle.law_bounds.specs.TreeRosters.{IsTreeRoster, trees_cost}
use Rattle.law_bounds.specs.Counted.{HaveCounts}
use Rattle.check_certificates.specs.certificate_laws.Accepted.{bound_number}
use Rattle.law_bounds.specs.master_laws.Master.{MasterKey}
use Rattle.law_bounds.specs.master_laws.Sharp.{UsesArtificial}
use Rattle.tree_graph.specs.Graphs.{GraphView}
use Rattle.search_arc_counts.specs.roster_split.Counts.{count_of}
use Rattle.search_candidates.specs.declared.roster.Roster.{Roster}
use Rattle.search_candidates.specs.Rosters.{IsGoodRoster}
use Rattle.lp_master_rows.specs.declared.search_day.day.Day.{Day}
use Rattle.search_candidates.specs.Starts.{StartsWith}

-- the cost of the best roster, none where there is no roster
abbrev pub cost_of : Option Roster → Option ℕ
cost_of None = None
cost_of (Some r) = Some r.cost

-- that cost, or one more than the greatest cost
abbrev pub limit_of : Instance → Option Roster → ℕ
limit_of i best = bound_number i (cost_of best)

-- the best roster gave way to none that costs more
pub record IsBetter (i : Instance) (old new : Option Roster) : Type 0 where
  pub falls : limit_of i new ≤ limit_of i old
  pub good : IfSome new (IsGoodRoster i)
  pub start : StartsWith i old → StartsWith i new

-- balanced counts of the arcs of the graph
pub record CanBeTrees (i : Instance) (v : GraphView) (counts : List ℕ) : Type 0 where
  pub each : length counts ≡ length v.arcs
  pub listed : List ArcKey
  pub are : AreArcs i.grammar listed
  pub balanced : IsBalanced i.grammar listed (count_of v.arcs counts)

-- so many of the trees have each arc
abbrev pub HaveCountsOf : Instance → GraphView → List ℕ → List Parts → Type 0
HaveCountsOf i v counts ts =
    (listed : List ArcKey) → AreArcs i.grammar listed → HaveCounts i listed (count_of v.arcs counts) ts

-- trees with these counts are a roster that meets the base cuts and costs at most x, unless the solution
-- uses an artificial column
abbrev pub Reach : Instance → GraphView → List ℕ → List Cut → List (Weighted MasterKey) → ℕ → Type 0
Reach i v counts cuts ws x =
    (ts : List Parts) → HaveCountsOf i v counts ts
    → UsesArtificial i cuts ws ⊎ (IsTreeRoster i ts × Each (Meets ts) (base_cuts i) × (trees_cost i ts ≤ x))

-- the best roster costs no more than what the counts reach, unless the solution uses an artificial column
abbrev pub IsReached : Day → List ℕ → Option Roster → Type 0
IsReached d counts best =
    (x : ℕ) (cuts : List Cut) (ws : List (Weighted MasterKey))
    → Reach d.instance.now d.graph.now counts cuts ws x
    → UsesArtificial d.instance.now cuts ws ⊎ (limit_of d.instance.now best ≤ x)
