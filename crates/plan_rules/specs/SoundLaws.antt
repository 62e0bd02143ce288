-- The law that the rules of a writable plan are sound.
use Rattle.std.specs.Prelude.{◌≤◌, List, length}
use Rattle.model_rosters.specs.declared.grammar.Grammar.{Grammar}
use Rattle.model_rosters.specs.Sound.{IsPlain, IsSound}
use Rattle.plan_laws.specs.declared.period_plan.NamedLines.{NamedLines}
use Rattle.plan_laws.specs.declared.period_plan.PeriodPlan.{PeriodPlan}
use Rattle.plan_laws.specs.Names.{Kind}
use Rattle.plan_rules.specs.Closed.{IsClosed, count_rules}
use Rattle.plan_rules.specs.Grammars.{IsGrammarOf}
use Rattle.plan_rules.specs.Writable.{IsWritable}

-- the grammar of the names that the rules of a writable plan need is sound, where it has no more names and
-- rules than a rules text can say
abbrev pub SoundLaw : Type 0
SoundLaw = (p : PeriodPlan) (xs : List NamedLines) (names : List Kind) (g : Grammar)
    → IsWritable p xs → IsClosed p xs names → IsGrammarOf p xs names g
    → length names ≤ 32 → count_rules p xs names ≤ 64 → IsSound g × IsPlain g
