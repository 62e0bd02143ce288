-- Trees of a pool that are listed with weights, and these weights as fractions.
use Rattle.std.specs.Prelude.{ℕ, ◌≡◌, ◌≤◌, ◌<◌, ◌+◌, ◌^◌, All, List, [], ◌∷◌, length}
use Rattle.lp_near_prices.specs.declared.listed.ListedTree.{ListedTree}
use Rattle.lp_near_prices.specs.Listed.{IsListed}
use Rattle.search_node_columns.specs.declared.weights.Weight.{Weight}
use Rattle.search_node_columns.specs.Weights.{IsShare}

-- the numbers rise, from n on
abbrev pub AscendFrom : ℕ → List ListedTree → Type 0
AscendFrom n [] = Unit {0}
AscendFrom n (l ∷ ls) = (n ≤ l.column) × AscendFrom (l.column + 1) ls

-- some of so many trees, not too many, by rising numbers, each with a weight above 0 and at most 64
pub record MayBeListed (trees : ℕ) (ls : List ListedTree) : Type 0 where
  pub listed : All (IsListed trees) ls
  pub weights : All (λ (l : ListedTree). 0 < l.weight) ls
  pub ascend : AscendFrom 0 ls
  pub few : length ls ≤ 2 ^ 13

-- the weight of the same tree, over 2^56
pub record IsShareOf (l : ListedTree) (x : Weight) : Type 0 where
  pub column : x.column ≡ l.column
  pub share : IsShare x.x l.weight (2 ^ 56)

-- those of all of them, in this order
abbrev pub AreSharesOf : List ListedTree → List Weight → Type 0
AreSharesOf [] [] = Unit {0}
AreSharesOf (l ∷ ls) (x ∷ xs) = IsShareOf l x × AreSharesOf ls xs
AreSharesOf [] (x ∷ xs) = ⊥
AreSharesOf (l ∷ ls) [] = ⊥
