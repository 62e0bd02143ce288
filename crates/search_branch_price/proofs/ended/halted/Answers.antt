use Rattle.std.proofs.lemmas.Result.{IfOk-weaker}
use Rattle.search_branch_price.specs.Ends.{IsFoundHalted}
use Rattle.search_branch_price.proofs.LoopsLemmas.{halted-open, halted-closed}
use Rattle.search_branch_price.proofs.ended.halted.Goals as goal

pub found-requires-clause-end : goal.found-requires-clause-end
found-requires-clause-end c =
    let h = c.requires.halted in
    (h.0, halted-closed c.args.instance.now c.requires.sound h.0 c.args.progress.tree c.args.progress.best c.args.leaf h.1 (rw c.limit.ensures at c.if-limit-leaf.true) c.closed_end-bound.result c.closed_end-bound.ensures)

pub returns-then-limit-leaf-clause-found : goal.returns-then-limit-leaf-clause-found
returns-then-limit-leaf-clause-found c =
    let reached = rw c.limit.ensures at c.if-limit-leaf.true in
    IfOk-weaker c.found.result _ (IsFoundHalted c.args.instance.now c.args.progress c.args.leaf)
    (λ f h a is. h a (halted-closed c.args.instance.now c.requires.sound a c.args.progress.tree c.args.progress.best c.args.leaf is reached c.closed_end-bound.result c.closed_end-bound.ensures))
    c.found.ensures.found

pub found-requires-2-clause-end : goal.found-requires-2-clause-end
found-requires-2-clause-end c =
    let h = c.requires.halted in
    (h.0, halted-open c.args.instance.now c.requires.sound h.0 c.args.progress c.args.leaf h.1 (rw c.limit.ensures at c.if-limit-leaf.false))

pub returns-clause-found : goal.returns-clause-found
returns-clause-found c =
    let below = rw c.limit.ensures at c.if-limit-leaf.false in
    IfOk-weaker c.found-2.result _ (IsFoundHalted c.args.instance.now c.args.progress c.args.leaf)
    (λ f h a is. h a (halted-open c.args.instance.now c.requires.sound a c.args.progress c.args.leaf is below))
    c.found-2.ensures.found
