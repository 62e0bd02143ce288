use Rattle.search_node_columns.proofs.HeldColumns.{there}
use Rattle.search_node_columns.proofs.columns.NodeColumnsColumns.count.Goals as goal

pub returns-clause-keys : goal.returns-clause-keys
returns-clause-keys g c = λ j h.
    let x = there c.args.self.now.workspace.now.held j h in
    let is = c.requires.workspace.held.each j x.0 x.1 in
    (is.some.0, record { one = x.0; at = x.1; key = is.some.1 }, (is.tells is.some.0 is.some.1).belongs)
