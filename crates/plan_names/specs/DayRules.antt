-- The rules of a day in the law's words.
use Rattle.std.specs.Prelude.{false, true, List, [], ◌∷◌, ◌++◌}
use Rattle.plan_laws.specs.declared.period_plan.NamedLines.{NamedLines}
use Rattle.plan_laws.specs.declared.period_plan.PeriodPlan.{PeriodPlan}
use Rattle.plan_laws.specs.Named.{NamedRule, named}
use Rattle.plan_laws.specs.Names.{Kind, duty, early_days, kept_rule, lead_kind, leaves, off, plain}

abbrev pub day_rules : PeriodPlan → NamedLines → List (NamedRule Kind)
day_rules p x =
    kept_rule (leaves p x.lines false true) (plain 0 (named (lead_kind p) ∷ named (duty x.name x.lines) ∷ []))
    ++ (kept_rule (leaves p x.lines false false)
    (plain 0 (named (lead_kind p) ∷ named (duty x.name x.lines) ∷ named off ∷ []))
    ++ early_days p p.first_start x.name x.lines)
