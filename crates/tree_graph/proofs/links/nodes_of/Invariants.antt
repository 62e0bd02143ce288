use Rattle.std.proofs.Common.{◌≡◌, take}
use Rattle.tree_graph.proofs.links.nodes_of.Given as goal

abbrev pub invariant-loop-number : goal.invariant-loop-number
invariant-loop-number l = l.list ≡ take l.number l.nodes.keys
