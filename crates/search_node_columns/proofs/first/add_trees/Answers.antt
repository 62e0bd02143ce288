use Rattle.search_node_columns.proofs.FirstColumns.{more_chain}
use Rattle.search_node_columns.proofs.first.add_trees.Goals as goal
use Rattle.search_node_columns.proofs.first.add_trees.Goals.{then-tree-len+in_ok-add_tree, else-tree-len}

pub loop-tree-preserved : goal.loop-tree-preserved
loop-tree-preserved c =
    let v = c.loop-tree.invariant in
    elim c.if-tree-len.branch [
      | then-tree-len+in_ok-add_tree w ↦
          let e = w.in_ok-add_tree.ensures in
          rw (w.held-is, w.wanted-is) record {
            more = more_chain c.args.held.now c.loop-tree.held w.add_tree.new.held v.more e.more;
            wanted = e.wanted;
            listed = λ rows pool told. e.listed rows pool (v.listed rows pool told);
          }
      | else-tree-len w ↦ rw (w.held-is, w.wanted-is) v
    ]
