use Rattle.check_certificates.proofs.Forests.{whole-tree, tree-whole}
use Rattle.check_certificates.proofs.tree.is_whole_tree.Goals as goal

pub returns : goal.returns
returns c = (
  λ t. whole-tree c.args.instance.now c.base_cut_count.result c.args.nodes.now c.base_cut_count.ensures.value c.if-nodes-gt-MOST_NODES.false (c.is_tree.ensures.0 t),
  λ p. c.is_tree.ensures.1 (tree-whole c.args.instance.now c.base_cut_count.result c.args.nodes.now c.base_cut_count.ensures.value p),
)
