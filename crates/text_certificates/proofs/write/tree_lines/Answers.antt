use Rattle.text_certificates.proofs.WrittenLemmas.{node_more}
use Rattle.text_certificates.proofs.write.tree_lines.Goals as goal

pub loop-node-preserved : goal.loop-node-preserved
loop-node-preserved c =
    node_more c.args.instance.now c.args.nodes.now c.loop-node.node-index c.node-item.result c.args.out.now c.loop-node.out c.node_lines.new.out
    c.loop-node-test.true c.loop-node.invariant (rw c.node-item.is at c.in_ok-node_lines.ensures)
