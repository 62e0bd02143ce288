use Rattle.std.proofs.Common.{◌≡◌, ◌++◌}
use Rattle.std.specs.List.{flat_map}
use Rattle.page_parts.specs.Elements.{places, written}
use Rattle.page_text.specs.Charts.{axis_line}
use Rattle.page_text.proofs.chart.axis_lines.Given as goal

abbrev pub invariant-loop-count : goal.invariant-loop-count
invariant-loop-count l = l.out ≡ l.fn.out ++ written (flat_map (axis_line l.sheet l.unit l.top) (places l.count))
