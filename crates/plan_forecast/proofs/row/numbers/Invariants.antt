use Rattle.std.proofs.Common.{◌≡◌, [], length}
use Rattle.plan_forecast.specs.Rows.{numbers_at}
use Rattle.plan_forecast.proofs.row.numbers.Given as goal

abbrev pub invariant-loop-left : goal.invariant-loop-left
invariant-loop-left l =
    numbers_at l.line l.minute [] l.headings l.fn.cells ≡ numbers_at l.line l.minute l.numbers l.left l.cells

abbrev pub decreases-loop-left : goal.decreases-loop-left
decreases-loop-left l = length l.left
