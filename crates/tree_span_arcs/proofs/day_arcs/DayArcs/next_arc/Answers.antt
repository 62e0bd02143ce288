use Rattle.std.proofs.Common.{sym, subst}
use Rattle.tree_span_cells.specs.Cells.{AreFilled}
use Rattle.tree_span_arcs.specs.Marks.{free_view}
use Rattle.tree_span_arcs.specs.DayArcs.{DayArcsView}
use Rattle.tree_span_arcs.proofs.day_arcs.DayArcs.next_arc.Goals as goal

pub next_arc-requires-clause-filled : goal.next_arc-requires-clause-filled
next_arc-requires-clause-filled c = subst (λ (t : DayArcsView). AreFilled c.args.grammar.now free_view t.layout t.free) (sym c.self.view_is) c.requires.arcs.derived
