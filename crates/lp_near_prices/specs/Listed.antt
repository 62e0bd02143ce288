-- Trees of a pool that are listed with their weights.
use Rattle.std.specs.Prelude.{ℕ, ◌≡◌, ◌<◌, ◌≤◌, ◌^◌, Some, List, [], ◌∷◌, slice_get}
use Rattle.model_rosters.specs.declared.grammar.Grammar.{Grammar}
use Rattle.model_rosters.specs.Trees.{Parts}
use Rattle.law_bounds.specs.linear_programs.Solution.{Weighted}
use Rattle.tree_pool.specs.Pools.{PoolTree, IsPoolTree}
use Rattle.lp_near_prices.specs.declared.listed.ListedTree.{ListedTree}

-- the number is of one of n trees, and the weight is at most that of 64 trees over 2^56
pub record IsListed (n : ℕ) (l : ListedTree) : Type 0 where
  pub column : l.column < n
  pub weight : l.weight ≤ 2 ^ 62

-- it is this tree of the pool with this weight
pub record IsWeightOf (g : Grammar) (pool : List PoolTree) (l : ListedTree) (w : Weighted Parts) :
    Type 0 where
  pub held : PoolTree
  pub column : slice_get pool l.column ≡ Some held
  pub tree : IsPoolTree g w.key held
  pub weight : w.weight ≡ l.weight

-- the listed trees with their weights
abbrev pub AreWeightsOf : Grammar → List PoolTree → List ListedTree → List (Weighted Parts) → Type 0
AreWeightsOf g pool [] [] = Unit {0}
AreWeightsOf g pool (l ∷ ls) (w ∷ ws) = IsWeightOf g pool l w × AreWeightsOf g pool ls ws
AreWeightsOf g pool [] (w ∷ ws) = ⊥
AreWeightsOf g pool (l ∷ ls) [] = ⊥
