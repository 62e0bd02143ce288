use Rattle.std.proofs.Common.{arith, subst, sym, ap, length, List}
use Rattle.model_rosters.specs.declared.grammar.ArcKey.{ArcKey}
use Rattle.tree_cheapest.specs.declared.order.Order.{Order}
use Rattle.tree_cheapest.specs.Orders.{IsOrderBefore}
use Rattle.tree_cheapest.proofs.OrdersLemmas.{order-begins, order-ends}
use Rattle.tree_cheapest.proofs.order.find_order.Goals as goal

pub loop-place-init : goal.loop-place-init
loop-place-init c = λ letters are.
    let of = c.nodes.ensures.grammar in
    subst (λ (o : Order). IsOrderBefore c.args.graph.now letters 0 o) (sym c.in_ok-order.ensures) (order-begins of.0 c.args.graph.now of.2 letters)

pub loop-place-preserved : goal.loop-place-preserved
loop-place-preserved c = λ letters are. c.in_ok-add_last.ensures letters are (c.loop-place.invariant letters are)

pub returns : goal.returns
returns c = λ letters are.
    let of = c.nodes.ensures.grammar in
    let all = ap (λ (xs : List ArcKey). length xs) c.arcs-place-end.ensures.arcs in
    order-ends of.0 c.args.graph.now of.2 letters c.loop-place.place c.loop-place.order (omega (arith, c.loop-place-test.false, all)) (c.loop-place.invariant letters are)
