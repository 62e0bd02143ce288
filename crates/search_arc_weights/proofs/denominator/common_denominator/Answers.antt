use Rattle.std.proofs.Common.{rules}
use Rattle.search_arc_weights.specs.Denominators.{AreAllPast}
use Rattle.search_arc_weights.proofs.Steps.{cons_at}
use Rattle.search_arc_weights.proofs.Multiples.{first_multiple, next_multiple, past_multiple}
use Rattle.search_arc_weights.proofs.denominator.common_denominator.Goals as goal

pub loop-weight-init : goal.loop-weight-init
loop-weight-init c = first_multiple c.args.weights.now

pub returns-in_err-d-clause-past : goal.returns-in_err-d-clause-past
returns-in_err-d-clause-past c =
    let at = cons_at c.args.weights.now c.loop-weight.weight-index c.weight-item.result c.loop-weight-test.true c.weight-item.is in
    let p = c.in_err-d.ensures.past in
    let past : AreAllPast c.args.weights.now = past_multiple c.args.weights.now c.loop-weight.weight-index c.loop-weight.d c.unsigned_abs.result c.weight-item.result at (search rules) c.loop-weight.invariant p in
    rw c.from_residual.ensures past

pub loop-weight-preserved : goal.loop-weight-preserved
loop-weight-preserved c =
    let at = cons_at c.args.weights.now c.loop-weight.weight-index c.weight-item.result c.loop-weight-test.true c.weight-item.is in
    next_multiple c.args.weights.now c.loop-weight.weight-index c.loop-weight.d c.unsigned_abs.result c.weight-item.result at (search rules) c.loop-weight.invariant c.in_ok-d.d c.in_ok-d.ensures.multiple
