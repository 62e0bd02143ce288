use Rattle.std.proofs.Common.{◌+◌, length}
use Rattle.tree_pool.specs.grammar_core.Adding.{IsItemOf}
use Rattle.tree_pool.proofs.grammar_core.ItemsLemmas.{adds-init, adds-next}
use Rattle.tree_pool.proofs.grammar_core.items.add_items.Goals as goal

pub loop-suffix-init : goal.loop-suffix-init
loop-suffix-init c = adds-init c.args.number c.args.right.now c.args.items.now

pub loop-suffix-preserved : goal.loop-suffix-preserved
loop-suffix-preserved c =
    let next : IsItemOf c.args.number c.args.right.now c.loop-suffix.suffix (length c.loop-suffix.items + 1) c.item.result = rw (← c.len.ensures) c.item.ensures in
    rw c.in_ok-push.ensures.ok
    (adds-next c.args.number c.args.right.now c.loop-suffix.suffix c.args.items.now c.loop-suffix.items c.item.result next c.loop-suffix.invariant)
