use Rattle.std.proofs.Common.{◌≤◌, ◌+◌, ◌-◌, drop, get_or}
use Rattle.model_rosters.specs.declared.grammar.Sym.TheVariants.{Code}
use Rattle.tree_span_cells.specs.Cells.{place}
use Rattle.tree_span_arcs.specs.Marks.{Adds, SplitsMarked}
use Rattle.tree_span_arcs.proofs.marks.mark_parts.Given as goal

abbrev pub invariant-loop-point : goal.invariant-loop-point
invariant-loop-point l = record {
  low : l.span.start + 1 ≤ l.point;
  high : l.point ≤ l.end;
  adds : Adds l.grammar l.layout (place l.layout 0 l.span.start l.span.len) l.fn.marks l.marks;
  marked : SplitsMarked l.grammar l.layout l.marks l.suffix.rule l.suffix.from (get_or l.rule.right l.suffix.from (Code 0)) (drop (l.suffix.from + 1) l.rule.right) l.span.start l.span.len (l.point - l.span.start);
}

abbrev pub decreases-loop-point : goal.decreases-loop-point
decreases-loop-point l = l.end - l.point
