use Rattle.search_node_columns.proofs.FirstColumns.{told_push}
use Rattle.search_node_columns.proofs.first.add_tree.Goals as goal

pub returns-in_ok-push-2-clause-listed : goal.returns-in_ok-push-2-clause-listed
returns-in_ok-push-2-clause-listed c = λ rows pool told.
    rw c.in_ok-push.ensures.ok (told_push c.args.task.now.day.instance.now c.args.task.now.cuts.now c.args.pool.now c.args.held.now _ told (c.in_ok-tree_column.ensures.held rows pool))

pub returns-in_default-clause-listed : goal.returns-in_default-clause-listed
returns-in_default-clause-listed c = λ rows pool told.
    rw c.in_ok-push.ensures.ok (told_push c.args.task.now.day.instance.now c.args.task.now.cuts.now c.args.pool.now c.args.held.now _ told (c.in_ok-tree_column.ensures.held rows pool))
