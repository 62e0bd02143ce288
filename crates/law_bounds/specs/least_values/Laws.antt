-- The laws of this crate.
use Rattle.std.specs.Prelude.{ℕ, ℤ, pos, ◌+ℤ◌, ◌*ℤ◌, ◌≤ℤ◌, Option, List}
use Rattle.model_rosters.specs.declared.grammar.Grammar.{Grammar}
use Rattle.model_rosters.specs.declared.instance.Cut.{Cut}
use Rattle.model_rosters.specs.declared.instance.Instance.{Instance}
use Rattle.model_rosters.specs.declared.instance.Prices.{Prices}
use Rattle.model_rosters.specs.Sound.{IsSound}
use Rattle.model_rosters.specs.SoundInstance.{IsSoundInstance}
use Rattle.model_rosters.specs.Sums.{PriceView, IsLeast, tree_sum}
use Rattle.model_rosters.specs.Trees.{Parts, IsDayTree, IsTreeOf}
use Rattle.law_bounds.specs.BestPrices.{AreBest, IsRival, loss}
use Rattle.law_bounds.specs.Lagrangian.{IsLagrangian}

-- the trees of a name have a least sum, none where no tree has a sum
abbrev pub HaveLeastSums : Type 0
HaveLeastSums = (g : Grammar) (p : PriceView) (x : ℕ) → IsSound g
    → (v : Option ℤ) × IsLeast (IsTreeOf g x) (tree_sum p 1) v

-- prices have a Lagrangian value
abbrev pub HaveValues : Type 0
HaveValues = (i : Instance) (p : Prices) (cuts : List Cut) → IsSoundInstance i → (v : ℤ) × IsLagrangian i p cuts v

-- the values of best prices and of a rival, and what one is above the other at most
pub record StandsBelow (i : Instance) (p rival : Prices) (cuts : List Cut) : Type 0 where
  pub best : ℤ
  pub is_best : IsLagrangian i p cuts best
  pub value : ℤ
  pub is_value : IsLagrangian i rival cuts value
  pub below : (value *ℤ pos p.d) ≤ℤ ((best +ℤ pos (loss i p cuts)) *ℤ pos rival.d)

-- best prices bound each rival, on a day that has a tree
abbrev pub BestBoundsRivals : Type 0
BestBoundsRivals = (i : Instance) (p : Prices) (cuts : List Cut) (t : Parts) → IsSoundInstance i → AreBest i p cuts
    → IsDayTree i.grammar t → (rival : Prices) → IsRival i rival cuts → StandsBelow i p rival cuts
