use Rattle.std.proofs.Common.{sym, subst}
use Rattle.tree_span_cells.specs.Cells.{AreFilled}
use Rattle.tree_span_arcs.specs.Marks.{free_view}
use Rattle.tree_span_arcs.specs.DayArcs.{DayArcsView}
use Rattle.tree_span_arcs.proofs.day_arcs.DayArcs.count_run.Goals as goal

pub count_run-requires-clause-filled : goal.count_run-requires-clause-filled
count_run-requires-clause-filled c = subst (λ (t : DayArcsView). AreFilled c.args.grammar.now free_view t.layout t.free) (sym c.self.view_is) c.requires.arcs.derived
