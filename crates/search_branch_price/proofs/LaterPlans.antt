-- Plans where the best roster becomes better, and columns where the pool grows.
use Rattle.std.proofs.Common.{All, ℕ, ◌<◌, ◌≤◌, Option, None, Some, List, arith, length, length-append, ap, ◌∙◌}
use Rattle.std.specs.Prelude.{MatchOption}
use Rattle.model_rosters.specs.declared.instance.Cut.{Cut}
use Rattle.model_rosters.specs.declared.instance.Instance.{Instance}
use Rattle.model_rosters.specs.declared.instance.Prices.{Prices}
use Rattle.tree_graph.specs.Graphs.{GraphView}
use Rattle.tree_pool.specs.Pools.{PoolTree, IsGrown}
use Rattle.search_node_columns.specs.declared.weights.Weight.{Weight}
use Rattle.search_candidates.specs.declared.roster.Roster.{Roster}
use Rattle.search_candidates.specs.Offers.{limit_of, IsBetter}
use Rattle.search_open_nodes.specs.declared.leaf.Plan.{Plan}
use Rattle.search_tree.specs.Trees.{IsPlan}

-- a plan stays one where the best roster becomes better
pub plan-later : (i : Instance) (v : GraphView) (cuts : List Cut) (prices : Prices) (plan : Option Plan) (value : ℕ) (b c : Option Roster) → IsBetter i b c
    → MatchOption plan (limit_of i b ≤ value) (IsPlan i v cuts prices) → MatchOption plan (limit_of i c ≤ value) (IsPlan i v cuts prices)
plan-later i v cuts prices None value b c better h = let l = better.falls in omega (arith, l, h)
plan-later i v cuts prices (Some p) value b c better h = h

-- columns of the pool are in the one that it has become
pub weights-later : (old new : List PoolTree) (ws : List Weight) → IsGrown old new → All (λ (w : Weight). w.column < length old) ws → All (λ (w : Weight). w.column < length new) ws
weights-later old new ws grown all k d lt =
    let e = ap length grown.1 ∙ length-append old grown.0 in
    let h = all k d lt in
    omega (arith, e, h)
