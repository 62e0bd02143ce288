use Rattle.tree_span_arcs.proofs.MarksLemmas.{flags-fit}
use Rattle.tree_span_arcs.proofs.derived.Derived.new.Goals as goal

pub fill_cells-requires-clause-fits : goal.fill_cells-requires-clause-fits
fill_cells-requires-clause-fits c = flags-fit c.args.grammar.now c.in_ok-layout.layout c.in_ok-layout.ensures
