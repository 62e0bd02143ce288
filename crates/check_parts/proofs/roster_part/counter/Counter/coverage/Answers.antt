use Rattle.std.proofs.Common.{arith}
use Rattle.check_parts.proofs.roster_part.ShiftCounts.{covered-few}
use Rattle.check_parts.proofs.roster_part.CountersLemmas.{covered-held}
use Rattle.check_parts.proofs.roster_part.counter.Counter.coverage.Goals as goal

pub returns-clause-within : goal.returns-clause-within
returns-clause-within c =
    let g = c.args.grammar.now in
    let cell = c.args.cell.now in
    let ss = c.args.shifts.now in
    let held = covered-held g ss cell c.count.new.self c.count.ensures.counter c.count.ensures.code (omega (arith, c.requires.periods, c.requires.cell.first, c.requires.cell.last)) in
    omega (arith, held, covered-few g cell ss, c.requires.few)
