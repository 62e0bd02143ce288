use Rattle.std.proofs.Common.{◌≡◌, map, take}
use Rattle.page_rosters.specs.RunLines.{shortage_of}
use Rattle.page_rosters.proofs.runs.all_shortages.Given as goal

abbrev pub invariant-loop-column : goal.invariant-loop-column
invariant-loop-column l = l.lacks ≡ map shortage_of (take l.column-index l.columns)
