-- What prices show at a list of cuts: a lower bound on the cost of a roster.
use Rattle.std.specs.Prelude.{ℕ, ℤ, pos, negsuc, ◌≡◌, ◌+◌, ◌-◌, ◌/◌, min, List}
use Rattle.model_rosters.specs.declared.instance.Cut.{Cut}
use Rattle.model_rosters.specs.declared.instance.Instance.{Instance}
use Rattle.model_rosters.specs.declared.instance.Prices.{Prices}
use Rattle.model_rosters.specs.GreatestCost.{greatest_cost}
use Rattle.law_bounds.specs.Lagrangian.{IsLagrangian}

-- v / d rounded up, and 0 where it is negative
abbrev pub rounded_up : ℤ → ℕ → ℕ
rounded_up (pos n) d = (n + (d - 1)) / d
rounded_up (negsuc n) d = 0

-- the Lagrangian value in units of cost, rounded up; one more than the greatest cost where it is
-- above that
pub record IsPricedValue (i : Instance) (p : Prices) (cuts : List Cut) (v : ℕ) : Type 0 where
  pub lagrangian : ℤ
  pub is_lagrangian : IsLagrangian i p cuts lagrangian
  pub value : v ≡ min (greatest_cost i + 1) (rounded_up lagrangian p.d)
