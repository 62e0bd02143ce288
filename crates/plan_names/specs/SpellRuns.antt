-- Spells from the left: a run of periods at one cost, and the spells behind it.
use Rattle.std.specs.Prelude.{ℕ, ◌≡◌, cond, nat_eq, List, [], ◌∷◌, ◌++◌, map}
use Rattle.plan_laws.specs.declared.period_plan.Activity.{Activity}
use Rattle.plan_laws.specs.declared.period_plan.PeriodPlan.{PeriodPlan}
use Rattle.plan_laws.specs.Named.{NamedRule}
use Rattle.plan_laws.specs.Names.{Kind, at_rule}
use Rattle.plan_laws.specs.Spells.{Spell}
use Rattle.plan_names.specs.declared.letters.CostRun.{CostRun}

-- the run as a spell
abbrev pub spell_of : CostRun → Spell
spell_of x = record { lo = x.lo; hi = x.hi; cost = x.cost }

-- a run is one spell with the spells that follow it, where the first of these costs the same
abbrev pub merged : Spell → List Spell → List Spell
merged x [] = x ∷ []
merged x (s ∷ ss) =
    cond (nat_eq s.cost x.cost) (record { lo = x.lo; hi = s.hi; cost = s.cost } ∷ ss) (x ∷ s ∷ ss)

-- the rules of a run and the next one, whatever follows, are those that were appended and those of the last
-- run
abbrev pub GrowsTo : PeriodPlan → Activity → CostRun → CostRun → CostRun → List (NamedRule Kind)
    → List (NamedRule Kind) → Type 0
GrowsTo p a run next last before now =
    (rest : List Spell)
    → before ++ map (at_rule p a) (merged (spell_of run) (merged (spell_of next) rest))
    ≡ now ++ map (at_rule p a) (merged (spell_of last) rest)
