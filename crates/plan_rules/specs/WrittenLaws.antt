-- The law that what is written is what the law of plans asks.
use Rattle.std.specs.Prelude.{◌≡◌, ◌≢◌, Some, List, [], slice_get}
use Rattle.model_rosters.specs.declared.grammar.Grammar.{Grammar}
use Rattle.model_rosters.specs.Folds.{In}
use Rattle.plan_laws.specs.declared.period_plan.NamedLines.{NamedLines}
use Rattle.plan_laws.specs.declared.period_plan.PeriodPlan.{PeriodPlan}
use Rattle.plan_laws.specs.Laws.{IsWritten}
use Rattle.plan_laws.specs.Named.{Numbers}
use Rattle.plan_laws.specs.Names.{Kind, day}
use Rattle.plan_names.specs.FreeCodes.{free_of}
use Rattle.plan_names.specs.StartNames.{start_kind}
use Rattle.plan_rules.specs.Outcomes.{HasWritten}

-- a duty name's day is a name of the grammar that is called so
pub record IsCalled (num : Numbers Kind) (names : List Kind) (g : Grammar) (x : NamedLines) : Type 0 where
  pub listed : In (day x.name x.lines) names
  pub called : slice_get g.names (num.name (day x.name x.lines)) ≡ Some x.name

-- the grammar is written for the plan, and its start and its duty names are what they should be
pub record IsWrittenFor (p : PeriodPlan) (xs : List NamedLines) (g : Grammar) : Type 0 where
  pub num : Numbers Kind
  pub names : List Kind
  pub written : IsWritten p (free_of p xs) num names g
  pub start_listed : In (start_kind xs) names
  pub start : g.start ≡ num.name (start_kind xs)
  pub called : (x : NamedLines) → In x xs → x.name ≢ [] → IsCalled num names g x

abbrev pub WrittenLaw : Type 0
WrittenLaw = (p : PeriodPlan) (xs : List NamedLines) (g : Grammar) → HasWritten p xs g → IsWrittenFor p xs g
