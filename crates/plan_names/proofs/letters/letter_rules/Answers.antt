use Rattle.std.proofs.Common.{◌≡◌, ◌++◌, ◌+◌, ◌*◌, ◌-◌, ◌&&◌, ℕ, List, [], ◌∷◌, Bool, true, false, suc, cond, nat_eq, nat_le, map, arith, sym, ap, ◌∙◌, subst}
use Rattle.plan_laws.specs.PeriodShifts.{letter_cost}
use Rattle.plan_laws.specs.Names.{at_rule, spells_of}
use Rattle.plan_names.specs.Views.{rule_of}
use Rattle.plan_names.proofs.Runs.{runs_step}
use Rattle.plan_names.proofs.letters.letter_rules.Goals as goal

pub loop-behind-preserved : goal.loop-behind-preserved
loop-behind-preserved c =
    runs_step c.args.plan.now c.args.activity.now (letter_cost c.args.plan.now c.args.plus c.args.activity.now.code)
    c.loop-behind.behind c.args.plan.now.periods c.loop-behind.run c.in_ok-next.next c.in_ok-run-2.run'
    (map rule_of c.loop-behind.rules) (map rule_of c.grown.new.rules)
    (map (at_rule c.args.plan.now c.args.activity.now) (spells_of c.args.plan.now c.args.plus c.args.activity.now))
    c.loop-behind-test.true c.in_ok-next.ensures c.loop-behind.invariant c.in_ok-run-2.ensures
