use Rattle.std.proofs.Common.{◌≡◌, ◌≤◌, ◌*◌, take}
use Rattle.model_rosters.specs.Folds.{sum_n}
use Rattle.tree_pool.specs.Costs.{step_cost}
use Rattle.tree_pool.proofs.costs.cost_of.Given as goal

abbrev pub invariant-loop-step : goal.invariant-loop-step
invariant-loop-step l = record {
  sum : l.cost ≡ sum_n (step_cost l.grammar) (take l.step-index l.steps);
  small : l.cost ≤ 10000 * l.step-index;
}
