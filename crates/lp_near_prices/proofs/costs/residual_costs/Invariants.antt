use Rattle.std.proofs.Common.{◌≤◌, ◌*◌, ◌^◌}
use Rattle.law_bounds.specs.BestPrices.{artificial_cost}
use Rattle.law_bounds.specs.master_laws.Rows.{rows_of}
use Rattle.lp_near_prices.specs.Shares.{unit}
use Rattle.lp_near_prices.proofs.RowShares.{IsTold}
use Rattle.lp_near_prices.proofs.costs.residual_costs.Given as goal

abbrev pub invariant-loop-row : goal.invariant-loop-row
invariant-loop-row l = record {
  told : IsTold (artificial_cost l.instance) unit (rows_of l.instance l.cuts) l.sums l.row l.sum;
  small : l.sum ≤ l.row * 2 ^ 114;
}
