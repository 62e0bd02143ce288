use Rattle.std.proofs.Common.{◌≡◌, ◌∙◌, min, length, sym, arith}
use Rattle.tree_pool.proofs.OrdersLemmas.{compare-end}
use Rattle.tree_pool.proofs.order.compare.Goals as goal

pub returns : goal.returns
returns c =
    let ended : c.loop-place.place ≡ min (length c.args.steps.now) (length c.args.others.now) = omega (arith, c.loop-place-test.false, c.loop-place.auto.place-end, c.min-place-end.ensures) in
    c.cmp.ensures ∙ sym (c.loop-place.invariant ∙ compare-end c.args.steps.now c.args.others.now c.loop-place.place ended)
