use Rattle.std.proofs.Common.{◌≡◌, [], map, ap, ◌∙◌}
use Rattle.plan_laws.specs.Named.{NamedRule}
use Rattle.plan_laws.specs.Names.{Kind, duty_rule}
use Rattle.plan_names.specs.Gathered.{with_new}
use Rattle.plan_names.specs.Same.{same_rule}
use Rattle.plan_names.specs.Views.{rule_of}
use Rattle.plan_names.proofs.Gathering.{all_step, map_one}
use Rattle.plan_names.proofs.days.line_rules.Goals as goal

pub loop-line-preserved : goal.loop-line-preserved
loop-line-preserved c =
    all_step same_rule [] (map (duty_rule c.args.plan.now)) (map_one (duty_rule c.args.plan.now)) c.args.lines.now c.loop-line.line-index c.line-item.result
    (map rule_of c.loop-line.rules) (map rule_of c.add_new.new.rules) c.loop-line-test.true c.line-item.is c.loop-line.invariant
    (c.in_ok-add_new.ensures ∙ ap (λ (r : NamedRule Kind). with_new same_rule (map rule_of c.loop-line.rules) r) c.in_ok-rule.ensures)
