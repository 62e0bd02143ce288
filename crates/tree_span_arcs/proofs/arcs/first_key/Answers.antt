use Rattle.tree_span_arcs.proofs.OrderLemmas.{arc-shape, step-sought, first-sought}
use Rattle.tree_span_arcs.proofs.arcs.first_key.Goals as goal

pub returns-in-Some : goal.returns-in-Some
returns-in-Some c = rw c.in-Some.is (step-sought c.args.grammar.now _ c.step.result c.step.ensures)

pub returns-in-None : goal.returns-in-None
returns-in-None c = rw c.in-None.is (first-sought c.args.grammar.now (arc-shape c.args.grammar.now c.args.layout.now c.args.marks.now c.requires.sound c.requires.ready.layout c.requires.marked))
