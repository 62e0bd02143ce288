use Rattle.std.proofs.Common.{◌≡◌, [], drop}
use Rattle.plan_forecast.specs.Columns.{column_at}
use Rattle.plan_forecast.specs.Steps.{each}
use Rattle.plan_forecast.proofs.columns.columns.Given as goal

abbrev pub invariant-loop-need : goal.invariant-loop-need
invariant-loop-need l =
    each (column_at l.day l.step l.table) [] l.needs ≡ each (column_at l.day l.step l.table) l.columns (drop l.need-index l.needs)
