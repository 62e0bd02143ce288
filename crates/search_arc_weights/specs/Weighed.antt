-- What the weights of a solution's trees say of the arcs.
use Rattle.std.specs.Prelude.{ℕ, ◌≡◌, ◌<◌, ◌*◌, ◌+◌, ◌≤◌, ◌^◌, ◌⊎◌, Some, List, ◌++◌, length, slice_get}
use Rattle.model_rosters.specs.declared.grammar.ArcKey.{ArcKey}
use Rattle.model_rosters.specs.declared.instance.Cut.{Cut}
use Rattle.model_rosters.specs.declared.instance.Instance.{Instance}
use Rattle.model_rosters.specs.declared.instance.Prices.{Prices}
use Rattle.model_rosters.specs.Arcs.{IsArc}
use Rattle.model_rosters.specs.Cuts.{lo, hi}
use Rattle.model_rosters.specs.arc_laws.Lists.{AreArcs}
use Rattle.tree_graph.specs.Graphs.{GraphView}
use Rattle.tree_pool.specs.Pools.{PoolTree}
use Rattle.law_bounds.specs.master_laws.Sharp.{UsesArtificial, AreFine, arc_weight}
use Rattle.law_bounds.specs.master_laws.WholeCounts.{HasCounts}
use Rattle.law_bounds.specs.near_laws.NearSharp.{IsWellBetween, IsNearly, LackMuch, near_weight}
use Rattle.search_node_columns.specs.declared.weights.Weight.{Weight}
use Rattle.search_masters.specs.declared.ends.Solution.{Solution}
use Rattle.search_masters.specs.declared.ends.Solution.TheVariants.{Exact, Near}
use Rattle.search_masters.specs.Ends.{AreLeastWeights, IsNear}
use Rattle.search_arc_counts.specs.roster_split.Counts.{count_of}
use Rattle.search_arc_weights.specs.declared.weighed.Weighed.{Weighed}
use Rattle.search_arc_weights.specs.declared.weighed.Weighed.TheVariants.{Whole, Between, Other}

-- the arc's trees weigh more than b and less than b + 1, and both halves of the split are left a count
pub record IsBetween (i : Instance) (v : GraphView) (cuts : List Cut) (columns : List PoolTree)
    (weights : List Weight) (arc b : ℕ) : Type 0 where
  pub key : ArcKey
  pub at : slice_get v.arcs arc ≡ Some key
  pub low : lo cuts key ≤ b
  pub high : b < hi i.heads_max cuts key
  pub more : (w : AreLeastWeights i cuts columns weights) → w.d * b < arc_weight key (w.trees ++ w.others)
  pub less : (w : AreLeastWeights i cuts columns weights) → arc_weight key (w.trees ++ w.others)
      < w.d * (b + 1)

-- the trees of each arc weigh a whole number together
pub record AreWhole (i : Instance) (v : GraphView) (cuts : List Cut) (columns : List PoolTree)
    (weights : List Weight) (counts : List ℕ) : Type 0 where
  pub each : length counts ≡ length v.arcs
  pub whole : (w : AreLeastWeights i cuts columns weights) (listed : List ArcKey) → AreArcs i.grammar listed
      → HasCounts i cuts (w.trees ++ w.others) w.d listed (count_of v.arcs counts)

-- the arc's trees weigh at least 2^-12 more than b and at least 2^-12 less than b + 1, and both halves of the
-- split are left a count
pub record IsNearBetween (i : Instance) (v : GraphView) (cuts : List Cut) (columns : List PoolTree)
    (weights : List Weight) (arc b : ℕ) : Type 0 where
  pub key : ArcKey
  pub at : slice_get v.arcs arc ≡ Some key
  pub low : lo cuts key ≤ b
  pub high : b < hi i.heads_max cuts key
  pub well : (p : Prices) (w : IsNear i cuts columns p weights)
      → IsWellBetween (2 ^ 56) b (near_weight key w.trees)

-- the trees of each arc weigh its count together, or are within 2^-12 of it
pub record AreNearWhole (i : Instance) (v : GraphView) (cuts : List Cut) (columns : List PoolTree)
    (weights : List Weight) (counts : List ℕ) : Type 0 where
  pub each : length counts ≡ length v.arcs
  pub whole : (p : Prices) (w : IsNear i cuts columns p weights) (a : ArcKey) → IsArc i.grammar a
      → IsNearly (2 ^ 56) (count_of v.arcs counts a) (near_weight a w.trees)

-- what the answer says of an exact solution, and of a near one
abbrev pub IsWeighed : Instance → GraphView → List Cut → List PoolTree → List Weight → Solution → Weighed
    → Type 0
IsWeighed i v cuts columns weights Exact (Whole counts) = AreWhole i v cuts columns weights counts
IsWeighed i v cuts columns weights Exact (Between arc b) = IsBetween i v cuts columns weights arc b
IsWeighed i v cuts columns weights Exact Other =
    (w : AreLeastWeights i cuts columns weights)
    → UsesArtificial i cuts (w.trees ++ w.others) ⊎ AreFine (w.trees ++ w.others) w.d
IsWeighed i v cuts columns weights Near (Whole counts) = AreNearWhole i v cuts columns weights counts
IsWeighed i v cuts columns weights Near (Between arc b) = IsNearBetween i v cuts columns weights arc b
IsWeighed i v cuts columns weights Near Other =
    (p : Prices) (w : IsNear i cuts columns p weights) → LackMuch i cuts (2 ^ 56) w.trees
