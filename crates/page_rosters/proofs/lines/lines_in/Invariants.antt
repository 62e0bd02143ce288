use Rattle.std.proofs.Common.{◌≡◌, take}
use Rattle.std.specs.List.{flat_map}
use Rattle.page_rosters.specs.ShiftLines.{line_at}
use Rattle.page_rosters.proofs.lines.lines_in.Given as goal

abbrev pub invariant-loop-place : goal.invariant-loop-place
invariant-loop-place l = l.lines ≡ flat_map (line_at l.instance l.labels l.marked l.shifts) (take l.place-index l.places)
