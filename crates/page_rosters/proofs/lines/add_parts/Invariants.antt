use Rattle.std.proofs.Common.{◌≡◌, ◌++◌, drop}
use Rattle.std.specs.Prelude.{true}
use Rattle.page_rosters.specs.ShiftLines.{parts_of}
use Rattle.page_rosters.proofs.lines.add_parts.Given as goal

abbrev pub invariant-loop-stretch : goal.invariant-loop-stretch
invariant-loop-stretch l =
    l.fn.lines ++ parts_of l.instance l.labels l.marked l.place l.shift true l.stretches
    ≡ l.lines ++ parts_of l.instance l.labels l.marked l.place l.shift l.first (drop l.stretch-index l.stretches)
