use Rattle.search_open_nodes.proofs.HeldLemmas.{held-popped, leaves-popped, leaves-least}
use Rattle.search_open_nodes.proofs.queue.OpenNodes.pop.Goals as goal

pub invariant_of-self-2 : goal.invariant_of-self-2
invariant_of-self-2 c =
    let p = c.in_ok-entry.ensures in
    let u = c.remove-kept.ensures in
    ((p.heap_order c.self.invariant.0).0, held-popped _ _ _ _ c.self.invariant.1 p.permutation _ u.updates)

pub returns-clause-taken : goal.returns-clause-taken
returns-clause-taken c =
    let p = c.in_ok-entry.ensures in
    let u = c.remove-kept.ensures in
    let e = c.self.view_is in (
      λ q. rw (← e) (leaves-popped _ _ _ _ c.self.invariant.1 p.permutation _ u.updates q c.remove-kept.result u.value),
      leaves-least c.remove-kept.new.self _ _ (p.below_top c.self.invariant.0),
    )
