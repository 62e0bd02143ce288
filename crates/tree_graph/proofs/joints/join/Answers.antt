use Rattle.std.proofs.Common.{refl}
use Rattle.tree_graph.specs.declared.joints.Joints.{Joints}
use Rattle.tree_graph.proofs.GraphsLemmas.{joints-are, rows-within}
use Rattle.tree_graph.proofs.joints.join.Goals as goal

pub lists_of-requires-clause-makers : goal.lists_of-requires-clause-makers
lists_of-requires-clause-makers c = rows-within c.in_ok-links.links.nodes.keys c.in_ok-links.links.entries.makers c.in_ok-links.ensures.maker_rows

pub lists_of-requires-clause-users : goal.lists_of-requires-clause-users
lists_of-requires-clause-users c = rows-within c.in_ok-links.links.nodes.keys c.in_ok-links.links.entries.users c.in_ok-links.ensures.user_rows

pub returns-in-Ok : goal.returns-in-Ok
returns-in-Ok c =
    let links = c.in_ok-links.links in
    let n = c.in-Ok.ensures in
    let j : Joints = record { links = links.arcs; nodes = c.in-Ok.nodes; root = c.root_of-root.result } in
    rw c.joined.ensures (joints-are c.args.grammar.now c.args.arcs.now links j c.requires.arcs c.requires.few c.in_ok-links.ensures refl n.keys n.makers n.users c.root_of-root.ensures)
