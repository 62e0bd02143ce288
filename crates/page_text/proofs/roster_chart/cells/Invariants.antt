use Rattle.std.proofs.Common.{◌≡◌, ◌++◌}
use Rattle.std.specs.List.{flat_map}
use Rattle.page_parts.specs.Elements.{places, written}
use Rattle.page_text.specs.RosterChart.{marked_cell}
use Rattle.page_text.proofs.roster_chart.cells.Given as goal

abbrev pub invariant-loop-place : goal.invariant-loop-place
invariant-loop-place l = l.out ≡ l.fn.out ++ written (flat_map (marked_cell l.sheet l.codes l.off l.top l.row) (places l.place))
