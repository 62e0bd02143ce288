use Rattle.std.proofs.Common.{◌-◌, ◌≡◌, ◌≤◌, ◌+◌}
use Rattle.tree_span_cells.specs.Places.{shorter}
use Rattle.tree_span_cells.proofs.index.SpanIndex.span.Given as goal

abbrev pub invariant-loop-len : goal.invariant-loop-len
invariant-loop-len l = (1 ≤ l.len) × (l.len ≤ l.periods) × (shorter l.periods (l.len - 1) + l.rest ≡ l.place)

abbrev pub decreases-loop-len : goal.decreases-loop-len
decreases-loop-len l = l.periods - l.len
