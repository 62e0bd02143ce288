-- The grammar that is written for a plan.
use Rattle.std.specs.Prelude.{ℕ, suc, ◌≡◌, Bool, true, false, cond, nat_eq, List, [], ◌∷◌, ◌++◌}
use Rattle.model_rosters.specs.declared.grammar.CodeDef.{CodeDef}
use Rattle.model_rosters.specs.declared.grammar.Grammar.{Grammar}
use Rattle.plan_laws.specs.declared.period_plan.Activity.{Activity}
use Rattle.plan_laws.specs.declared.period_plan.NamedLines.{NamedLines}
use Rattle.plan_laws.specs.declared.period_plan.PeriodPlan.{PeriodPlan}
use Rattle.plan_laws.specs.Named.{Numbers, all_rules}
use Rattle.plan_laws.specs.Names.{Kind}
use Rattle.plan_names.specs.Gathered.{place}
use Rattle.plan_names.specs.Same.{same, same_bool}
use Rattle.plan_names.specs.StartNames.{start_kind}
use Rattle.plan_names.specs.WrittenFor.{written_for}
use Rattle.plan_rules.specs.NameTexts.{name_texts}

-- the codes of the activities that are work, or of those that are none, as is asked
abbrev pub codes_of : Bool → List Activity → List CodeDef
codes_of work [] = []
codes_of work (a ∷ as_well) =
    cond (same_bool a.work work) (record { byte = a.code; work = work } ∷ codes_of work as_well)
    (codes_of work as_well)

-- the codes: those of work, time off, and those of pauses
abbrev pub plan_codes : PeriodPlan → List CodeDef
plan_codes p =
    codes_of true p.activities ++ (record { byte = p.off; work = false } ∷ codes_of false p.activities)

-- the place of a byte's code, from 0; behind all where there is none
abbrev pub code_place : ℕ → List CodeDef → ℕ
code_place c [] = 0
code_place c (d ∷ ds) = cond (nat_eq d.byte c) 0 (suc (code_place c ds))

-- numbers by place
abbrev pub numbers_of : List CodeDef → List Kind → Numbers Kind
numbers_of codes ks = record { letter = λ c. code_place c codes; name = λ k. place same k ks }

-- the grammar of these names, with the rules that are written for each
pub record IsGrammarOf (p : PeriodPlan) (xs : List NamedLines) (ks : List Kind) (g : Grammar) : Type 0 where
  pub periods : g.periods ≡ p.periods
  pub codes : g.codes ≡ plan_codes p
  pub names : g.names ≡ name_texts 0 ks
  pub rules : g.rules ≡ all_rules (numbers_of (plan_codes p) ks) (written_for p xs) ks
  pub start : g.start ≡ place same (start_kind xs) ks
