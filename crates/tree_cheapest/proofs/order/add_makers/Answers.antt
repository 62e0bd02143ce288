use Rattle.std.proofs.Common.{◌+◌, List, subst, sym}
use Rattle.std.specs.Prelude.{slice_index}
use Rattle.std.proofs.lemmas.Option.{slice_get-get_or}
use Rattle.tree_cheapest.specs.declared.order.Maker.{Maker}
use Rattle.tree_cheapest.specs.Orders.{AreAdded}
use Rattle.tree_cheapest.proofs.OrdersLemmas.{added-begins, added-next}
use Rattle.tree_cheapest.proofs.order.add_makers.Goals as goal

pub loop-index-init : goal.loop-index-init
loop-index-init c = added-begins c.args.graph.now c.args.links.now c.args.arcs.now c.args.makers.now

pub maker_of-requires-clause-arc : goal.maker_of-requires-clause-arc
maker_of-requires-clause-arc c = c.requires.arcs c.loop-index.index (slice_index c.args.arcs.now c.loop-index.index) (slice_get-get_or c.args.arcs.now c.loop-index.index 0 c.loop-index-test.true)

pub loop-index-preserved : goal.loop-index-preserved
loop-index-preserved c =
    subst (λ (q : List Maker). AreAdded c.args.graph.now c.args.links.now c.args.arcs.now c.args.makers.now q (c.loop-index.index + 1)) (sym c.in_ok-push.ensures.ok)
    (added-next c.args.graph.now c.args.links.now c.args.arcs.now c.args.makers.now c.loop-index.makers c.loop-index.index (slice_index c.args.arcs.now c.loop-index.index) c.maker_of.result
    c.loop-index.invariant (slice_get-get_or c.args.arcs.now c.loop-index.index 0 c.loop-index-test.true) c.maker_of.ensures)
