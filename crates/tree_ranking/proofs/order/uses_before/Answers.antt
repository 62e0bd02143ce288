use Rattle.std.proofs.Common.{arith}
use Rattle.tree_ranking.proofs.PlaceLemmas.{none_apart}
use Rattle.tree_ranking.proofs.order.uses_before.Goals as goal

pub returns-clause-no : goal.returns-clause-no
returns-clause-no c = λ h.
    absurd (none_apart c.args.first.now c.args.second.now c.loop-place.place (omega (arith, c.loop-place-test.false, c.min-place-end.ensures)) c.loop-place.invariant.apart)
