use Rattle.std.proofs.Common.{◌<◌, ◌/◌, ◌∙◌, arith}
use Rattle.plan_meaning.specs.Times.{day_length}
use Rattle.plan_fields.proofs.CostLemmas.{costly_on}
use Rattle.plan_fields.proofs.costs.costly_period.Goals as goal

pub loop-passed-preserved : goal.loop-passed-preserved
loop-passed-preserved c =
    let d = c.args.day.now in
    let lt : c.loop-passed.passed < day_length d / d.minutes = omega (arith, c.loop-passed-test.true, c.periods-passed-end.ensures.value) in
    c.loop-passed.invariant
    ∙ costly_on d c.args.extras.now c.args.code c.args.hour c.loop-passed.passed (day_length d / d.minutes) c.minutes.result c.period_units-units.result
    lt c.minutes.ensures.value c.period_units-units.ensures c.if-units-gt-MOST_UNITS.false
