-- The rules of a name as they are written: duty lines that come to equal rules once.
use Rattle.std.specs.Prelude.{List, [], map}
use Rattle.plan_laws.specs.declared.period_plan.NamedLines.{NamedLines}
use Rattle.plan_laws.specs.declared.period_plan.PeriodPlan.{PeriodPlan}
use Rattle.plan_laws.specs.Named.{NamedRule}
use Rattle.plan_laws.specs.Names.{Kind, duty, duty_rule, rules_for}
use Rattle.plan_names.specs.FreeCodes.{free_of}
use Rattle.plan_names.specs.Gathered.{with_all}
use Rattle.plan_names.specs.Same.{same_rule}

abbrev pub written_for : PeriodPlan → List NamedLines → Kind → List (NamedRule Kind)
written_for p xs (duty name ds) = with_all same_rule [] (map (duty_rule p) ds)
written_for p xs k = rules_for p (free_of p xs) k
