use Rattle.std.proofs.Common.{drop, sym}
use Rattle.std.proofs.Math.ListN.{drop_of_length-le}
use Rattle.search_node_columns.proofs.ApartTrees.{trees_apart}
use Rattle.search_node_columns.proofs.TreeWeights.{split_first, split_taken, split_left, split_last}
use Rattle.search_node_columns.proofs.weights.tree_weights.Goals as goal
use Rattle.search_node_columns.proofs.weights.tree_weights.Goals.{in-Some+in_ok-push, in_default}

pub loop-one-init : goal.loop-one-init
loop-one-init c = λ g pool d ws some h. rw c.new-weights.ensures (split_first g pool c.args.held.now d ws c.args.basic.now h)

pub loop-one-preserved : goal.loop-one-preserved
loop-one-preserved c =
    elim c.match-tree_weight.branch [
      | in-Some+in_ok-push w ↦ λ g pool d ws some h.
          rw (w.weights-is, w.in_ok-push.ensures.ok)
          (split_taken g pool c.args.held.now d ws c.args.basic.now c.loop-one.one-index c.one-item.result c.loop-one.weights w.in-Some.weight c.loop-one-test.true (sym c.one-item.is)
          (λ v b. w.in-Some.ensures.some g pool d v some b) (c.loop-one.invariant g pool d ws some h))
      | in_default w ↦ λ g pool d ws some h.
          rw w.weights-is
          (split_left g pool c.args.held.now d ws c.args.basic.now c.loop-one.one-index c.one-item.result c.loop-one.weights c.loop-one-test.true (sym c.one-item.is)
          (λ v b. w.in_default.ensures.none g pool d v some b) (c.loop-one.invariant g pool d ws some h))
    ]

pub returns : goal.returns
returns c = λ g pool d ws some h.
    let are = split_last g pool c.args.held.now d ws (drop c.loop-one.one-index c.args.basic.now) c.loop-one.weights (drop_of_length-le c.args.basic.now c.loop-one-test.false) (c.loop-one.invariant g pool d ws some h) in
    (are, λ once. trees_apart g pool d c.loop-one.weights ws are once)
