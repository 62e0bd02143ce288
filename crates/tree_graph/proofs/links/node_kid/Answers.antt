use Rattle.tree_graph.proofs.NodesLemmas.{kid-at}
use Rattle.tree_graph.proofs.links.node_kid.Goals as goal

pub returns-in-Some : goal.returns-in-Some
returns-in-Some c = kid-at c.args.nodes.now.keys c.args.key c.in-Some.number c.in-Some.ensures
