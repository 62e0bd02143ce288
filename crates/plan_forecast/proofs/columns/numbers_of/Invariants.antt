use Rattle.std.proofs.Common.{◌≡◌, take}
use Rattle.plan_forecast.specs.Columns.{numbers_of}
use Rattle.plan_forecast.proofs.columns.numbers_of.Given as goal

abbrev pub invariant-loop-row : goal.invariant-loop-row
invariant-loop-row l =
    l.numbers ≡ numbers_of l.place (take l.row-index l.rows)
