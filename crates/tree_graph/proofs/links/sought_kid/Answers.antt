use Rattle.tree_graph.proofs.NodesLemmas.{found-at, not-none, kid-at}
use Rattle.std.proofs.Common.{sym, ◌∙◌}
use Rattle.tree_graph.proofs.links.sought_kid.Goals as goal

pub returns : goal.returns
returns c = kid-at c.args.nodes.now.keys c.args.key c.in-Some.number (found-at c.args.nodes.now.keys c.args.key c.in-Some.number (sym c.get_index_of.ensures.index ∙ c.in-Some.is))

pub unreachable-requires : goal.unreachable-requires
unreachable-requires c = not-none c.args.nodes.now.keys c.args.key c.get_index_of.result c.requires.listed c.get_index_of.ensures.found c.in_default.is
