use Rattle.std.proofs.Common.{◌≡◌, ◌++◌, length}
use Rattle.plan_forecast.specs.Headings.{titles}
use Rattle.plan_forecast.proofs.title.titles.Given as goal

abbrev pub invariant-loop-left : goal.invariant-loop-left
invariant-loop-left l =
    titles l.separator l.cells ≡ l.all ++ titles l.separator l.left

abbrev pub decreases-loop-left : goal.decreases-loop-left
decreases-loop-left l = length l.left
