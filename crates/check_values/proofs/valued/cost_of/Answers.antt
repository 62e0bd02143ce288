use Rattle.check_values.proofs.PricedShifts.{short-words}
use Rattle.check_values.proofs.valued.cost_of.Goals as goal

pub keep_all-requires-clause-short : goal.keep_all-requires-clause-short
keep_all-requires-clause-short c = short-words c.args.instance.now c.args.shifts.now c.requires.shifts.each
