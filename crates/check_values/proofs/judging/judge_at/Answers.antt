use Rattle.std.proofs.Common.{rules, arith}
use Rattle.check_values.proofs.FoundPrices.{found-length}
use Rattle.check_values.proofs.ValuedRosters.{causes-are}
use Rattle.check_values.proofs.judging.judge_at.Goals as goal

pub causes_of-requires-clause-found : goal.causes_of-requires-clause-found
causes_of-requires-clause-found c = omega (arith, found-length c.args.instance.now c.args.shifts.now c.args.found.now c.requires.found, c.requires.shifts.few)

pub returns-then-not-is_empty : goal.returns-then-not-is_empty
returns-then-not-is_empty c =
    causes-are c.args.instance.now c.args.shifts.now c.args.found.now c.requires.found c.in_ok-causes.causes c.in_ok-causes.ensures (search rules)
