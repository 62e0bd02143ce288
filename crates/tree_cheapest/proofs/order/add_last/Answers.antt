use Rattle.std.proofs.Common.{arith, refl}
use Rattle.tree_cheapest.proofs.OrdersLemmas.{made-inside, some-maker, last-makes, last-maker, order-kept}
use Rattle.tree_cheapest.proofs.order.add_last.Goals as goal

pub makers-arcs-requires : goal.makers-arcs-requires
makers-arcs-requires c =
    let of = c.requires.graph in
    made-inside of.0 c.args.graph.now of.2 c.args.place c.made_by-node.result c.requires.place c.made_by-node.ensures

pub is_last-requires : goal.is_last-requires
is_last-requires c =
    let of = c.requires.graph in
    let inside = made-inside of.0 c.args.graph.now of.2 c.args.place c.made_by-node.result c.requires.place c.made_by-node.ensures in
    some-maker of.0 c.args.graph.now of.2 c.made_by-node.result c.makers-arcs.result.now inside c.makers-arcs.ensures

pub add_row-requires-clause-node : goal.add_row-requires-clause-node
add_row-requires-clause-node c =
    let of = c.requires.graph in
    made-inside of.0 c.args.graph.now of.2 c.args.place c.made_by-node.result c.requires.place c.made_by-node.ensures

pub returns-then-not-is_last : goal.returns-then-not-is_last
returns-then-not-is_last c = λ letters are old.
    let of = c.requires.graph in
    let inside = made-inside of.0 c.args.graph.now of.2 c.args.place c.made_by-node.result c.requires.place c.made_by-node.ensures in
    let its = last-makes of.0 c.args.graph.now of.2 c.made_by-node.result c.makers-arcs.result.now inside c.makers-arcs.ensures in
    let behind = last-maker of.0 c.args.graph.now of.2 c.made_by-node.result c.makers-arcs.result.now inside c.makers-arcs.ensures c.args.place c.requires.place c.made_by-node.ensures in
    let other = c.if-not-is_last.ensures.other refl in
    order-kept of.0 c.args.graph.now of.2 letters c.args.place c.made_by-node.result c.made_by-node.ensures c.args.order.now _ its.0 its.1 (omega (arith, behind, other)) old

pub returns : goal.returns
returns c = λ letters are old.
    let of = c.requires.graph in
    let inside = made-inside of.0 c.args.graph.now of.2 c.args.place c.made_by-node.result c.requires.place c.made_by-node.ensures in
    let is = c.if-not-is_last.ensures.last refl in
    c.in_ok-add_row.ensures letters c.args.place are c.made_by-node.ensures
    (λ q lt made_by.
    let behind = last-maker of.0 c.args.graph.now of.2 c.made_by-node.result c.makers-arcs.result.now inside c.makers-arcs.ensures q lt made_by in
    omega (arith, behind, is))
    old
