use Rattle.std.proofs.Common.{◌≡◌, map, take}
use Rattle.page_rosters.specs.RunLines.{run_line}
use Rattle.page_rosters.proofs.runs.run_lines.Given as goal

abbrev pub invariant-loop-run : goal.invariant-loop-run
invariant-loop-run l = l.lines ≡ map (run_line l.codes l.labels) (take l.run-index l.runs)
