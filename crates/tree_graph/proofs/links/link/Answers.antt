use Rattle.tree_graph.proofs.LinkedLemmas.{linked-none}
use Rattle.tree_graph.proofs.links.link.Goals as goal

pub add_all-requires-clause-none : goal.add_all-requires-clause-none
add_all-requires-clause-none c = let e = c.in_ok-links.ensures in rw (e.nodes, e.arcs, e.entries) (linked-none c.args.grammar.now)
