use Rattle.check_parts.proofs.roster_part.FaultsLemmas.{heads_cause, cost_told}
use Rattle.check_parts.proofs.roster_part.roster.roster_fault.Goals as goal

pub returns-in-Some-heads_fault-clause-value : goal.returns-in-Some-heads_fault-clause-value
returns-in-Some-heads_fault-clause-value c =
    heads_cause c.args.instance.now c.args.cost c.args.shifts.now c.in_default.ensures.value c.in-Some-heads_fault.why c.in-Some-heads_fault.ensures

pub returns-clause-value : goal.returns-clause-value
returns-clause-value c =
    cost_told c.args.instance.now c.args.cost c.args.shifts.now c.in_default.ensures.value c.cost_fault.result c.in_default-heads_fault.ensures c.cost_fault.ensures
