use Rattle.std.proofs.Common.{◌<◌, ℕ, List, drop}
use Rattle.model_rosters.specs.declared.grammar.Grammar.{Grammar}
use Rattle.law_bounds.specs.linear_programs.Solution.{Weighted}
use Rattle.law_bounds.specs.master_laws.Master.{MasterKey}
use Rattle.tree_pool.specs.Pools.{PoolTree}
use Rattle.search_node_columns.specs.Columns.{HasKey}
use Rattle.search_node_columns.proofs.TreeWeights.{IsSplit}
use Rattle.lp_tableaus.specs.Ends.{AreBasicWeights}
use Rattle.search_node_columns.proofs.weights.tree_weights.Given as goal

abbrev pub invariant-loop-one : goal.invariant-loop-one
invariant-loop-one l = (g : Grammar) (pool : List PoolTree) (d : ℕ) (ws : List (Weighted MasterKey)) → 0 < d → AreBasicWeights (HasKey g pool l.held) d l.basic ws
    → IsSplit g pool l.held d (drop l.one-index l.basic) l.weights ws
