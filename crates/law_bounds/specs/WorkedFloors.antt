-- A day whose floors and ceilings no roster keeps: each half of a split shows more than any cost.
use Rattle.std.specs.Prelude.{ℕ, ◌≡◌, pos, negsuc, List, [], ◌∷◌, Some}
use Rattle.model_rosters.specs.declared.instance.Cell.{Cell}
use Rattle.model_rosters.specs.declared.instance.Instance.{Instance}
use Rattle.model_rosters.specs.declared.instance.Mult.{Mult}
use Rattle.model_rosters.specs.declared.instance.Prices.{Prices}
use Rattle.model_rosters.specs.Sums.{tree_sum}
use Rattle.model_rosters.specs.GreatestCost.{greatest_cost}
use Rattle.model_rosters.specs.Reduced.{reduced_view}
use Rattle.law_bounds.specs.Lagrangian.{lagrangian_sum}
use Rattle.law_bounds.specs.WorkedDay.{day_of, first, second, third, none, some}

-- exactly one employee is to work in the period
abbrev one : ℕ → Cell
one period = record { code = 0; period = period; need = 1; under = 10; over = 0; floor = 1; ceiling = 1 }

abbrev pub day : Instance
day = day_of (one 1 ∷ one 2 ∷ one 3 ∷ [])

abbrev mults : List Mult
mults = record { cut = 1; value = pos 116 } ∷ []

abbrev low_prices : Prices
low_prices = record { d = 1; cell = pos 59 ∷ pos 59 ∷ negsuc 56 ∷ []; mult = mults }

abbrev high_prices : Prices
high_prices = record { d = 1; cell = negsuc 56 ∷ negsuc 56 ∷ pos 59 ∷ []; mult = mults }

-- all reduced costs are 0 in both halves, and both show 61
pub record WorkedFloors : Type 0 where
  pub greatest : greatest_cost day ≡ 60
  pub low_first : tree_sum (reduced_view day low_prices none) 1 first ≡ Some (pos 0)
  pub low_second : tree_sum (reduced_view day low_prices none) 1 second ≡ Some (pos 0)
  pub low_third : tree_sum (reduced_view day low_prices none) 1 third ≡ Some (pos 0)
  pub low_value : lagrangian_sum day low_prices none (Some (pos 0)) ≡ pos 61
  pub high_first : tree_sum (reduced_view day high_prices some) 1 first ≡ Some (pos 0)
  pub high_second : tree_sum (reduced_view day high_prices some) 1 second ≡ Some (pos 0)
  pub high_third : tree_sum (reduced_view day high_prices some) 1 third ≡ Some (pos 0)
  pub high_value : lagrangian_sum day high_prices some (Some (pos 0)) ≡ pos 61
