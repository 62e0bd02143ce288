-- The arcs and the nodes of a graph, joined.
use Rattle.std.specs.Prelude.{◌≡◌, ◌≤◌, List, length, map}
use Rattle.model_rosters.specs.declared.grammar.ArcKey.{ArcKey}
use Rattle.model_rosters.specs.declared.grammar.Grammar.{Grammar}
use Rattle.tree_graph.specs.declared.joints.Joints.{Joints}
use Rattle.tree_graph.specs.Graphs.{GraphView, IsGraph}
use Rattle.tree_graph.specs.Nodes.{or_node}

-- what a contract sees of a graph of these arcs that are so joined
abbrev pub view_of : List ArcKey → Joints → GraphView
view_of arcs j = record {
  arcs = arcs;
  nodes = map or_node j.nodes.keys;
  made_by = j.links.made_by;
  first = j.links.first;
  rest = j.links.rest;
  makers = j.nodes.makers;
  users = j.nodes.users;
  root = j.root;
}

-- an item for each arc, and a row for each node
pub record HaveLengths (arcs : List ArcKey) (j : Joints) : Type 0 where
  pub few : length j.nodes.keys ≤ 100000
  pub made_by : length j.links.made_by ≡ length arcs
  pub first : length j.links.first ≡ length arcs
  pub rest : length j.links.rest ≡ length arcs
  pub makers : length j.nodes.makers ≡ length j.nodes.keys
  pub users : length j.nodes.users ≡ length j.nodes.keys

-- the arcs are so joined that they make the graph
pub record AreJoints (g : Grammar) (arcs : List ArcKey) (j : Joints) : Type 0 where
  pub graph : IsGraph g (view_of arcs j)
  pub lengths : HaveLengths arcs j
