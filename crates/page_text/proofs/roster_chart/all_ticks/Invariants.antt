use Rattle.std.proofs.Common.{◌≡◌, ◌++◌}
use Rattle.std.specs.List.{flat_map}
use Rattle.page_parts.specs.Elements.{places, written}
use Rattle.page_text.specs.RosterChart.{tick}
use Rattle.page_text.proofs.roster_chart.all_ticks.Given as goal

abbrev pub invariant-loop-place : goal.invariant-loop-place
invariant-loop-place l = l.out ≡ l.fn.out ++ written (flat_map (tick l.sheet l.top l.moments) (places l.place))
