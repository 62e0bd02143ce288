use Rattle.std.proofs.Common.{refl, ◌<◌, heap_len, arith}
use Rattle.std.specs.BinaryHeap.{heap_capacity}
use Rattle.search_open_nodes.proofs.HeldLemmas.{on-ok, held-pushed, leaves-pushed}
use Rattle.search_open_nodes.proofs.queue.OpenNodes.push.Goals as goal

pub invariant_of-self-2 : goal.invariant_of-self-2
invariant_of-self-2 c =
    let room : heap_len c.reserve.new.self < heap_capacity c.reserve.new.self = omega (arith, c.in_ok-reserve.ensures.ok) in
    let done = c.push.ensures.succeeds room in
    let moved = rw c.in_ok-reserve.ensures.items at (on-ok c.push.result _ done c.push.ensures.permutation) in
    let u = c.in_ok-key.ensures in
    (on-ok c.push.result _ done c.push.ensures.heap_order (rw c.in_ok-reserve.ensures.items c.self.invariant.0), held-pushed _ _ _ _ _ c.args.leaf.kept c.self.invariant.1 u.was_vacant u.updates moved)

pub returns-clause-ok : goal.returns-clause-ok
returns-clause-ok c q =
    let room : heap_len c.reserve.new.self < heap_capacity c.reserve.new.self = omega (arith, c.in_ok-reserve.ensures.ok) in
    let done = c.push.ensures.succeeds room in
    let moved = rw c.in_ok-reserve.ensures.items at (on-ok c.push.result _ done c.push.ensures.permutation) in
    let u = c.in_ok-key.ensures in
    let e = c.self.view_is in
    rw (← e) (leaves-pushed _ _ _ _ _ c.args.leaf.kept c.self.invariant.1 u.was_vacant u.updates moved q c.args.leaf refl)
