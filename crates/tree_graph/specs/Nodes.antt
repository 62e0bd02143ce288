-- The nodes of a graph as contracts see them.
use Rattle.model_rosters.specs.arc_laws.OrNodes.{OrNode, name, suffix}
use Rattle.tree_graph.specs.declared.node.NodeKey.{NodeKey}
use Rattle.tree_graph.specs.declared.node.NodeKey.TheVariants.{Name, Suffix}

-- the node that a key stands for
abbrev pub or_node : NodeKey → OrNode
or_node (Name x start len) = name x start len
or_node (Suffix rule from start len) = suffix rule from start len
