use Rattle.std.proofs.Common.{◌≡◌, length}
use Rattle.plan_forecast.specs.Rows.{empty_cells}
use Rattle.plan_forecast.proofs.row.all_empty.Given as goal

abbrev pub invariant-loop-left : goal.invariant-loop-left
invariant-loop-left l =
    empty_cells l.line l.fn.numbers l.cells ≡ empty_cells l.line l.fn.numbers l.left

abbrev pub decreases-loop-left : goal.decreases-loop-left
decreases-loop-left l = length l.left
