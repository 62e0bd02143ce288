use Rattle.std.proofs.Common.{◌≡◌, ◌≤◌, ◌-◌, Some}
use Rattle.model_rosters.specs.Arcs.{IsArc}
use Rattle.tree_span_arcs.specs.Ahead.{IsPassed}
use Rattle.tree_span_arcs.proofs.runs.list_run.Given as goal

abbrev pub invariant-loop-part : goal.invariant-loop-part
invariant-loop-part l = record {
  passed : IsPassed l.grammar l.fn.arcs (Some l.fn.arc) → IsPassed l.grammar l.arcs (Some l.last);
  is : IsArc l.grammar l.last;
  rule : l.last.rule ≡ l.fn.arc.rule;
  suffix : l.last.suffix ≡ l.fn.arc.suffix;
  start : l.last.start ≡ l.fn.arc.start;
  len : l.last.len ≡ l.fn.arc.len;
  more : l.fn.arc.part ≤ l.last.part;
}

abbrev pub decreases-loop-part : goal.decreases-loop-part
decreases-loop-part l = l.fn.arc.len - l.last.part
