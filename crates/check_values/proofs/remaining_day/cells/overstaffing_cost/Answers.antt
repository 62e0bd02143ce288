use Rattle.std.proofs.Common.{ap, arith}
use Rattle.std.proofs.lemmas.Nat.{mul-le}
use Rattle.check_parts.proofs.roster_part.ShiftCounts.{covered-few}
use Rattle.check_values.proofs.remaining_day.cells.overstaffing_cost.Goals as goal

pub returns-clause-small : goal.returns-clause-small
returns-clause-small c =
    let few = covered-few c.args.grammar.now c.args.cell.now c.args.shifts.now in
    mul-le _ _ 10000 64 (omega (arith, c.requires.cell.limited.over)) (omega (arith, few, c.covered.ensures, c.requires.few))
