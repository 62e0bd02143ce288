use Rattle.std.proofs.Common.{arith, slice_get, ◌≡◌, Some, length, ap, refl}
use Rattle.std.proofs.lemmas.Option.{slice_get_read}
use Rattle.model_rosters.proofs.StepRules.{HasSteps-none, HasSteps-more, ReachesSteps-all}
use Rattle.model_rosters.proofs.unit_rules.steps.Goals as goal

pub loop-rule-init : goal.loop-rule-init
loop-rule-init c = HasSteps-none c.args.grammar.now

pub loop-rule-preserved : goal.loop-rule-preserved
loop-rule-preserved c =
    let k = c.loop-rule.rule-index in
    let at : slice_get c.args.grammar.now.rules k ≡ Some c.rule-item.result =
    rw (← c.as_slice-rule-items.ensures) (slice_get_read _ _ k c.rule-item.result refl c.loop-rule-test.true c.rule-item.is) in
    HasSteps-more c.args.grammar.now k c.rule-item.result c.loop-rule.reach c.add_step.new.reach at
    c.add_step.ensures.added c.add_step.ensures.only c.add_step.ensures.kept c.loop-rule.invariant

pub returns-clause-steps : goal.returns-clause-steps
returns-clause-steps c =
    let all : c.loop-rule.rule-index ≡ length c.args.grammar.now.rules =
    omega (arith, ap length c.as_slice-rule-items.ensures) in
    ReachesSteps-all c.args.grammar.now c.loop-rule.reach (rw (← all) c.loop-rule.invariant)
