use Rattle.std.proofs.Common.{arith}
use Rattle.lp_tableaus.proofs.Places.{units_at}
use Rattle.lp_tableaus.proofs.small.check_entries.Goals as goal

pub returns-clause-units : goal.returns-clause-units
returns-clause-units c = units_at c.args.places.now (λ k h. c.loop-place.invariant.units k (omega arith))
