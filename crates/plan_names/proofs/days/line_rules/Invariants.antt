use Rattle.std.proofs.Common.{◌≡◌, [], map, take}
use Rattle.plan_laws.specs.Names.{duty_rule}
use Rattle.plan_names.specs.Gathered.{with_all}
use Rattle.plan_names.specs.Same.{same_rule}
use Rattle.plan_names.specs.Views.{rule_of}
use Rattle.plan_names.proofs.days.line_rules.Given as goal

abbrev pub invariant-loop-line : goal.invariant-loop-line
invariant-loop-line l = map rule_of l.rules ≡ with_all same_rule [] (map (duty_rule l.plan) (take l.line-index l.lines))
