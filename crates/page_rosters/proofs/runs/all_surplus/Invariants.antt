use Rattle.std.proofs.Common.{◌≡◌, map, take}
use Rattle.page_rosters.specs.RunLines.{surplus_of}
use Rattle.page_rosters.proofs.runs.all_surplus.Given as goal

abbrev pub invariant-loop-column : goal.invariant-loop-column
invariant-loop-column l = l.lacks ≡ map surplus_of (take l.column-index l.columns)
