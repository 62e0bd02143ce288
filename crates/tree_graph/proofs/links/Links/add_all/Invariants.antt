use Rattle.std.proofs.Common.{take}
use Rattle.tree_graph.specs.Linked.{IsLinked}
use Rattle.tree_graph.proofs.links.Links.add_all.Given as goal

abbrev pub invariant-loop-arc : goal.invariant-loop-arc
invariant-loop-arc l = IsLinked l.grammar (take l.arc-index l.arcs) l.self
