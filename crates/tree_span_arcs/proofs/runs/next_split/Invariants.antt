use Rattle.std.proofs.Common.{ℕ, ◌≤◌, ◌<◌, ◌+◌, ◌-◌, drop}
use Rattle.tree_span_arcs.specs.Marks.{HasSplit}
use Rattle.tree_span_arcs.proofs.runs.next_split.Given as goal

abbrev pub invariant-loop-point : goal.invariant-loop-point
invariant-loop-point l = record {
  low : l.span.start + l.part + 1 ≤ l.point;
  high : l.point ≤ l.end;
  none : (m : ℕ) → l.part < m → HasSplit l.grammar (drop l.suffix.from l.rule.right) l.span.start l.span.len m → l.point ≤ l.span.start + m;
}

abbrev pub decreases-loop-point : goal.decreases-loop-point
decreases-loop-point l = l.end - l.point
