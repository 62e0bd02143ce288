-- What the residuals of rows cost.
use Rattle.std.specs.Prelude.{ℕ, ℤ, pos, ◌≡◌, ◌-◌, ◌*◌, ◌^◌, Bool, true, false, cond, nat_lt, unsigned_abs, Option, None, Some, List}
use Rattle.model_rosters.specs.declared.instance.Cut.{Cut}
use Rattle.model_rosters.specs.declared.instance.Instance.{Instance}
use Rattle.model_rosters.specs.Folds.{Each}
use Rattle.model_rosters.specs.Limits.{IsSmallCut}
use Rattle.law_bounds.specs.BestPrices.{artificial_cost}
use Rattle.law_bounds.specs.master_laws.Rows.{Row}
use Rattle.law_bounds.specs.master_laws.Master.{missing_cost, beyond_cost, has_beyond}
use Rattle.lp_master_rows.specs.declared.rows.NodeRows.{NodeRows}
use Rattle.lp_master_rows.specs.NodeRows.{AreRows}

-- the denominator of weights
abbrev pub unit : ℕ
unit = 2 ^ 56

-- a cost in size, 0 where there is none
abbrev pub cost_in : Option ℤ → ℕ
cost_in None = 0
cost_in (Some c) = unsigned_abs c

abbrev pub has_cost : Option ℤ → Bool
has_cost None = false
has_cost (Some c) = true

-- the cost of what is beyond where a row is exceeded, none where nothing may be beyond, and else the cost of what
-- is missing
abbrev pub pick : Bool → Bool → ℕ → ℕ → Option ℕ
pick exceeded has over short = cond exceeded (cond has (Some over) None) (Some short)

-- what the residual of a row costs to which trees bring b; none where the row is exceeded and may not be
abbrev pub share : ℕ → ℕ → Row → ℕ → Option ℕ
share k q x b =
    pick (nat_lt (q * x.right) b) (has_beyond x.sense) ((b - q * x.right) * beyond_cost x.sense)
    ((q * x.right - b) * missing_cost k x.sense)

-- the rows of the node, whose cuts are small, and the cost of an artificial column
pub record ArePriced (i : Instance) (cuts : List Cut) (rows : NodeRows) (artificial : ℤ) : Type 0 where
  pub are : AreRows i cuts rows
  pub small : Each IsSmallCut cuts
  pub price : artificial ≡ pos (artificial_cost i)
