use Rattle.std.proofs.Common.{arith}
use Rattle.tree_cheapest.proofs.OrdersLemmas.{some-maker}
use Rattle.tree_short_order.proofs.BestLemmas.{best-next, first-makes}
use Rattle.tree_short_order.proofs.best.put_first.Goals as goal

pub bounds-arcs-0 : goal.bounds-arcs-0
bounds-arcs-0 c =
    let of = c.requires.graph in
    some-maker of.0 c.args.graph.now of.2 c.args.node c.makers-arcs.result.now c.requires.node c.makers-arcs.ensures

pub returns : goal.returns
returns c =
    let of = c.requires.graph in
    let makes = first-makes of.0 c.args.graph.now of.2 c.args.node c.makers-arcs.result.now c.requires.node c.makers-arcs.ensures in
    best-next c.args.graph.now c.args.best.now.items c.args.node _ (omega (arith, c.requires.node, c.requires.best.count)) makes c.requires.best
