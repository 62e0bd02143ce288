use Rattle.std.proofs.Common.{ℕ, ◌≡◌, ◌≤◌, ◌+◌, ◌-◌, Some}
use Rattle.model_rosters.specs.Arcs.{IsArc}
use Rattle.tree_span_arcs.specs.Ahead.{HasPassed}
use Rattle.tree_span_arcs.proofs.runs.count_run.Given as goal

abbrev pub invariant-loop-part : goal.invariant-loop-part
invariant-loop-part l = record {
  passed : (n : ℕ) → HasPassed l.grammar n (Some l.arc) → HasPassed l.grammar (n + l.before) (Some l.last);
  is : IsArc l.grammar l.last;
  rule : l.last.rule ≡ l.arc.rule;
  suffix : l.last.suffix ≡ l.arc.suffix;
  start : l.last.start ≡ l.arc.start;
  len : l.last.len ≡ l.arc.len;
  more : l.arc.part + l.before ≤ l.last.part;
}

abbrev pub decreases-loop-part : goal.decreases-loop-part
decreases-loop-part l = l.arc.len - l.last.part
