use Rattle.std.proofs.Common.{sym, ◌∙◌}
use Rattle.tree_graph.specs.declared.node.NodeKey.TheVariants.{Name}
use Rattle.tree_graph.proofs.NodesLemmas.{found-at, at-map, place-none}
use Rattle.tree_graph.proofs.links.root_of.Goals as goal

pub returns-in-Some : goal.returns-in-Some
returns-in-Some c =
    let key = Name c.args.grammar.now.start 1 c.args.grammar.now.periods in
    at-map c.args.nodes.now.keys c.in-Some.number key (found-at c.args.nodes.now.keys key c.in-Some.number (sym c.get_index_of.ensures.index ∙ c.in-Some.is))

pub returns-in-None : goal.returns-in-None
returns-in-None c =
    let key = Name c.args.grammar.now.start 1 c.args.grammar.now.periods in
    place-none c.args.nodes.now.keys key c.get_index_of.result c.get_index_of.ensures.found c.in-None.is
