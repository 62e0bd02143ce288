-- What comes of writing the grammar of a plan.
use Rattle.std.specs.Prelude.{ℕ, ◌≡◌, ◌<◌, ◌⊎◌, List, length}
use Rattle.model_rosters.specs.declared.grammar.Grammar.{Grammar}
use Rattle.model_rosters.specs.Sound.{IsPlain, IsSound}
use Rattle.plan_laws.specs.declared.period_plan.NamedLines.{NamedLines}
use Rattle.plan_laws.specs.declared.period_plan.PeriodPlan.{PeriodPlan}
use Rattle.plan_laws.specs.Names.{Kind}
use Rattle.plan_rules.specs.declared.fault.WriteFault.{WriteFault}
use Rattle.plan_rules.specs.declared.fault.WriteFault.TheVariants.{Memory, TooManyRules, Unsound}
use Rattle.plan_rules.specs.Closed.{IsClosed, count_rules}
use Rattle.plan_rules.specs.Grammars.{IsGrammarOf}

-- a sound grammar that a rules text can say, of the names that the rules need
pub record HasWritten (p : PeriodPlan) (xs : List NamedLines) (g : Grammar) : Type 0 where
  pub sound : IsSound g
  pub plain : IsPlain g
  pub names : List Kind
  pub closed : IsClosed p xs names
  pub is : IsGrammarOf p xs names g

-- the numbers of rules and names that would be too many
pub record AreTooMany (p : PeriodPlan) (xs : List NamedLines) (rules names : ℕ) : Type 0 where
  pub all : List Kind
  pub closed : IsClosed p xs all
  pub rules_are : rules ≡ count_rules p xs all
  pub names_are : names ≡ length all
  pub more : (64 < rules) ⊎ (32 < names)

abbrev pub IsRefused : PeriodPlan → List NamedLines → WriteFault → Type 0
IsRefused p xs (TooManyRules rules names) = AreTooMany p xs rules names
IsRefused p xs Unsound = Unit {0}
IsRefused p xs Memory = Unit {0}
