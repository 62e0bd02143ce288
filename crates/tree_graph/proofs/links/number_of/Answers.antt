use Rattle.tree_graph.proofs.NodesLemmas.{adds-key}
use Rattle.tree_graph.proofs.links.number_of.Goals as goal

pub returns : goal.returns
returns c =
    let e = c.in_ok-number.ensures in
    adds-key c.args.nodes.now.keys c.insert_full.new.self.keys c.args.key e.stored.0 c.in_ok-number.number e.keys e.stored.1 e.stored.2
