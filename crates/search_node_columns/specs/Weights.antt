-- The weights of the trees among the columns of a node's master.
use Rattle.std.specs.Prelude.{ℕ, pos, ◌≡◌, ◌≢◌, ◌<◌, ◌*ℤ◌, Some, List, [], ◌∷◌, slice_get}
use Rattle.model_rosters.specs.declared.grammar.Grammar.{Grammar}
use Rattle.model_rosters.specs.Folds.{Each}
use Rattle.model_rosters.specs.Trees.{Parts}
use Rattle.law_bounds.specs.linear_programs.Solution.{Weighted}
use Rattle.lp_fractions.specs.declared.frac.Frac.{Frac}
use Rattle.law_bounds.specs.master_laws.Master.{MasterKey, tree}
use Rattle.law_bounds.specs.master_laws.Ends.{tree_first, tree_weights}
use Rattle.lp_tableaus.specs.declared.simplex.Basic.{Basic}
use Rattle.lp_tableaus.specs.Ends.{IsBasicWeight, AreBasicWeights}
use Rattle.tree_pool.specs.Pools.{PoolTree, IsPoolTree}
use Rattle.search_node_columns.specs.declared.workspace.Held.{Held}
use Rattle.search_node_columns.specs.declared.weights.Weight.{Weight}
use Rattle.search_node_columns.specs.Columns.{HasKey}

-- the fraction is n / d
abbrev pub IsShare : Frac → ℕ → ℕ → Type 0
IsShare x n d = pos n *ℤ x.den ≡ x.num *ℤ pos d

-- a weight above 0 of a tree of the pool, as one in units of 1 / d
pub record IsWeight (g : Grammar) (columns : List PoolTree) (d : ℕ) (x : Weight)
    (w : Weighted MasterKey) : Type 0 where
  pub held : PoolTree
  pub column : slice_get columns x.column ≡ Some held
  pub some : Parts
  pub is : IsPoolTree g some held
  pub key : w.key ≡ tree some
  pub share : IsShare x.x w.weight d
  pub positive : 0 < w.weight

abbrev pub AreWeights : Grammar → List PoolTree → ℕ → List Weight → List (Weighted MasterKey) → Type 0
AreWeights g columns d [] [] = Unit {0}
AreWeights g columns d (x ∷ xs) (w ∷ ws) = IsWeight g columns d x w × AreWeights g columns d xs ws
AreWeights g columns d [] (w ∷ ws) = ⊥
AreWeights g columns d (x ∷ xs) [] = ⊥

-- no key stands twice
abbrev pub KeysStandOnce : List (Weighted MasterKey) → Type 0
KeysStandOnce [] = Unit {0}
KeysStandOnce (w ∷ ws) = Each (λ (v : Weighted MasterKey). v.key ≢ w.key) ws × KeysStandOnce ws

-- each weight is one of another tree
abbrev pub AreApart : List Weight → Type 0
AreApart [] = Unit {0}
AreApart (x ∷ xs) = Each (λ (y : Weight). y.column ≢ x.column) xs × AreApart xs

-- the weights of a basic solution's trees, whatever its weights over d; where no column is basic twice,
-- each is one of another tree
abbrev pub AreTreeWeights : Grammar → (ℕ → MasterKey → Type 0) → List PoolTree → List Basic → List Weight
    → Type 0
AreTreeWeights g Listed columns basic weights = (d : ℕ) (ws : List (Weighted MasterKey)) → 0 < d
    → AreBasicWeights Listed d basic ws
    → AreWeights g columns d weights (tree_weights ws) × (KeysStandOnce ws → AreApart weights)

-- the weight is not among those above 0 of trees
abbrev pub IsLeftOut : Weighted MasterKey → Type 0
IsLeftOut w = (ws : List (Weighted MasterKey)) → tree_first w.key w.weight ws ≡ ws

-- the weight is one above 0 of a tree of the pool
pub record IsTaken (g : Grammar) (columns : List PoolTree) (d : ℕ) (x : Weight)
    (w : Weighted MasterKey) : Type 0 where
  pub first : (ws : List (Weighted MasterKey)) → tree_first w.key w.weight ws ≡ w ∷ ws
  pub is : IsWeight g columns d x w

-- what the basic column has for a weight is left out, whatever the pool
abbrev pub TellsLeftOut : List Held → Basic → Type 0
TellsLeftOut held basic = (g : Grammar) (trees : List PoolTree) (d : ℕ) (w : Weighted MasterKey) → 0 < d
    → IsBasicWeight (HasKey g trees held) d basic w → IsLeftOut w

-- it is taken as this weight
abbrev pub TellsTaken : List Held → Basic → Weight → Type 0
TellsTaken held basic x = (g : Grammar) (trees : List PoolTree) (d : ℕ) (w : Weighted MasterKey) → 0 < d
    → IsBasicWeight (HasKey g trees held) d basic w → IsTaken g trees d x w

-- the weights are those of the listed trees among basic columns, whatever the pool
abbrev pub AreWeightsOf : List Held → List Basic → List Weight → Type 0
AreWeightsOf held basic weights = (g : Grammar) (trees : List PoolTree)
    → AreTreeWeights g (HasKey g trees held) trees basic weights
