use Rattle.std.proofs.Common.{◌≡◌, ◌^◌, ◌*◌}
use Rattle.std.specs.Prelude.{◌+ℤ◌}
use Rattle.model_rosters.specs.Folds.{sum_z}
use Rattle.model_rosters.specs.Reduced.{cell_prices}
use Rattle.model_rosters.specs.Sums.{Within}
use Rattle.law_bounds.specs.Lagrangian.{cell_share}
use Rattle.check_parts.proofs.priced_part.CellSums.{rest_sum}
use Rattle.check_parts.proofs.priced_part.shares.cells_share.Given as goal

abbrev pub invariant-loop-place : goal.invariant-loop-place
invariant-loop-place l = record {
  value : sum_z (cell_share l.d l.most) (cell_prices l.cells l.prices) ≡ l.sum +ℤ rest_sum (cell_share l.d l.most) l.cells l.prices l.place;
  within : Within (2 ^ 87 * l.place) l.sum;
}
