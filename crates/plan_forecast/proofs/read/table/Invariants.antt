use Rattle.std.proofs.Common.{◌≡◌, length}
use Rattle.plan_cells.specs.Lines.{text_lines}
use Rattle.plan_forecast.specs.ForecastOf.{line_at, no_table}
use Rattle.plan_forecast.specs.Steps.{each}
use Rattle.plan_forecast.proofs.read.table.Given as goal

abbrev pub invariant-loop-next : goal.invariant-loop-next
invariant-loop-next l =
    each (line_at l.plan) no_table (text_lines l.text) ≡ each (line_at l.plan) l.table l.lines

abbrev pub decreases-loop-next : goal.decreases-loop-next
decreases-loop-next l = length l.lines
