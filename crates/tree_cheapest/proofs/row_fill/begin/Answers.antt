use Rattle.std.proofs.Common.{arith, length}
use Rattle.std.proofs.lemmas.List.{length-set}
use Rattle.tree_cheapest.proofs.RowsLemmas.{small-begun}
use Rattle.tree_cheapest.proofs.row_fill.begin.Goals as goal

pub returns-clause-small : goal.returns-clause-small
returns-clause-small g c =
    let inv = c.loop-index.invariant in
    λ yes. small-begun g.N.Number.limits.sum c.args.nodes (length c.args.letters.now) c.loop-index.sums (omega (arith, inv.count, c.requires.slots, length-set c.loop-node.sums c.args.nodes c.new.result, c.loop-node.invariant.count)) inv.none inv.nothing (λ j lt. inv.small j (omega (arith, lt, c.loop-index-test.false)))
