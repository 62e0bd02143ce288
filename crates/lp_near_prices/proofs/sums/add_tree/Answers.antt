use Rattle.std.proofs.Common.{◌^◌}
use Rattle.lp_near_prices.proofs.ListedTrees.{found}
use Rattle.lp_near_prices.proofs.RaisedSums.{added-small, raised}
use Rattle.lp_near_prices.proofs.sums.add_tree.Goals as goal

pub add_weight-requires-clause-within : goal.add_weight-requires-clause-within
add_weight-requires-clause-within c =
    let f = found c.args.instance.now.grammar c.args.pool.now c.args.tree.now.column c.requires.pool c.requires.listed.column in
    let col = c.in_ok-places.ensures c.args.instance.now f.tree f.held c.requires.rows f.at f.is in
    rw (c.as_slice.ensures, c.requires.count) col.within

pub returns-clause-small : goal.returns-clause-small
returns-clause-small c = λ m all.
    let f = found c.args.instance.now.grammar c.args.pool.now c.args.tree.now.column c.requires.pool c.requires.listed.column in
    let col = c.in_ok-places.ensures c.args.instance.now f.tree f.held c.requires.rows f.at f.is in
    rw (c.add_weight.ensures, c.as_slice.ensures)
    (added-small c.args.tree.now.weight (2 ^ 62) m _ c.args.sums.now c.requires.listed.weight (rw c.requires.count col.within) col.rising all)

pub returns-clause-raised : goal.returns-clause-raised
returns-clause-raised c = λ t x at is.
    let col = c.in_ok-places.ensures c.args.instance.now t x c.requires.rows at is in
    rw (c.add_weight.ensures, c.as_slice.ensures)
    (raised c.args.instance.now c.args.cuts.now c.requires.rows.sound c.requires.cuts t is.day c.args.tree.now.weight _ c.args.sums.now c.requires.count col)
