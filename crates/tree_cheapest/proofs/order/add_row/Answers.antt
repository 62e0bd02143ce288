use Rattle.std.proofs.Common.{◌+◌, List, subst, sym, refl}
use Rattle.tree_cheapest.specs.declared.order.Row.{Row}
use Rattle.tree_cheapest.specs.Orders.{IsOrderBefore}
use Rattle.tree_cheapest.proofs.OrdersLemmas.{maker-makes, order-next}
use Rattle.tree_cheapest.proofs.order.add_row.Goals as goal

pub add_makers-requires-clause-arcs : goal.add_makers-requires-clause-arcs
add_makers-requires-clause-arcs c = λ i q e. (maker-makes c.requires.graph.0 c.args.graph.now c.requires.graph.2 c.args.node c.makers-arcs.result.now c.requires.node c.makers-arcs.ensures i q e).0

pub returns : goal.returns
returns c = λ letters place are made_by past old.
    let of = c.requires.graph in
    subst (λ (q : List Row). IsOrderBefore c.args.graph.now letters (place + 1) (record { rows = q; makers = c.add_makers.new.makers })) (sym c.in_ok-push.ensures.ok)
    (order-next of.0 c.args.graph.now of.2 letters place c.args.node made_by c.args.links.now are c.args.order.now c.makers-arcs.result.now c.add_makers.new.makers _ c.requires.node c.makers-arcs.ensures
    past c.in_ok-add_makers.ensures refl c.len-begin.ensures c.len-end.ensures old)
