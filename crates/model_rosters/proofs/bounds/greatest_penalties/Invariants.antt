use Rattle.std.proofs.Common.{◌≡◌, ◌+◌, ◌*◌, ◌≤◌, drop}
use Rattle.model_rosters.specs.Folds.{sum_n}
use Rattle.model_rosters.specs.GreatestCost.{greatest_penalty}
use Rattle.model_rosters.proofs.bounds.greatest_penalties.Given as goal

abbrev pub invariant-loop-cell : goal.invariant-loop-cell
invariant-loop-cell l = record {
  value : sum_n (greatest_penalty l.most) l.cells ≡ l.sum + sum_n (greatest_penalty l.most) (drop l.cell-index l.cells);
  within : l.sum ≤ 640000 * l.cell-index;
}
