-- The law between a plan and a grammar that is written for it.
use Rattle.std.specs.Prelude.{ℕ, ◌≡◌, ◌≤◌, ◌+◌, ◌↔◌, List, [], ◌∷◌, ◌++◌, length}
use Rattle.model_rosters.specs.declared.grammar.Grammar.{Grammar}
use Rattle.model_rosters.specs.declared.grammar.Window.{Window}
use Rattle.model_rosters.specs.declared.grammar.Sym.TheVariants.{Name}
use Rattle.model_rosters.specs.Folds.{Each, In}
use Rattle.model_rosters.specs.Trees.{Parts, On, word}
use Rattle.model_rosters.specs.Shifts.{IsShift, IsPrice}
use Rattle.model_rosters.specs.Arcs.{cost}
use Rattle.plan_laws.specs.Named.{Numbers, Written}
use Rattle.plan_laws.specs.declared.period_plan.Activity.{Activity}
use Rattle.plan_laws.specs.declared.period_plan.NamedLines.{NamedLines}
use Rattle.plan_laws.specs.declared.period_plan.PeriodDuty.{PeriodDuty}
use Rattle.plan_laws.specs.declared.period_plan.PeriodPlan.{PeriodPlan}
use Rattle.plan_laws.specs.PeriodShifts.{IsStretch, IsShiftBy, IsPriceOf, IsLetter}
use Rattle.plan_laws.specs.Names.{Kind, work, day, start, Free, IsStretchSet, IsGoodDuty, rules_for}

-- the grammar has the rules of these names of the plan, by these numbers; a day has at most 96 periods
pub record IsWritten (p : PeriodPlan) (free : Free) (num : Numbers Kind) (names : List Kind)
    (g : Grammar) : Type 0 where
  pub periods : g.periods ≡ p.periods
  pub few : p.periods ≤ 96
  pub rules : Written g num (rules_for p free) (IsLetter p) names

-- the name derives the word over the span
pub record IsSpanTree (g : Grammar) (name i : ℕ) (w : List ℕ) (t : Parts) : Type 0 where
  pub derives : On g (Name name ∷ []) i (length w) t
  pub word : word g t ≡ w

-- a tree of a stretch's name has a word that is a stretch, at a cost at least its cost; each stretch
-- within the day has a tree at exactly its cost
pub record StretchLaw (p : PeriodPlan) (num : Numbers Kind) (g : Grammar) (r : ℕ) (s : List Activity)
    (long : Window) : Type 0 where
  pub meant : (i : ℕ) (w : List ℕ) (t : Parts) → IsSpanTree g (num.name (work r s long)) i w t
      → (c : ℕ) × IsStretch p r s long i w c × (c ≤ cost g t)
  pub derived : (i : ℕ) (w : List ℕ) (c : ℕ) → 1 ≤ i → i + length w ≤ p.periods + 1
      → IsStretch p r s long i w c
      → (t : Parts) × IsSpanTree g (num.name (work r s long)) i w t × (cost g t ≡ c)

-- the word is a shift of one of these lines
abbrev pub IsShiftOf : PeriodPlan → List PeriodDuty → List ℕ → Type 0
IsShiftOf p ds w = (d : PeriodDuty) × (price : ℕ) × In d ds × IsShiftBy p d w price

-- the lines of several names
abbrev pub all_lines : List NamedLines → List PeriodDuty
all_lines [] = []
all_lines (x ∷ xs) = x.lines ++ all_lines xs

-- for a name of these duty lines, the words derived over the whole day are exactly their shifts, and
-- the least cost of a tree is exactly the price
pub record DayLaw (p : PeriodPlan) (num : Numbers Kind) (g : Grammar) (k : Kind)
    (ds : List PeriodDuty) : Type 0 where
  pub shifts : (w : List ℕ) → IsShift g (num.name k) w ↔ IsShiftOf p ds w
  pub prices : (w : List ℕ) (price : ℕ) → IsPrice g (num.name k) w price ↔ IsPriceOf p ds w price

abbrev pub PlanLaw : Type 0
PlanLaw =
    (p : PeriodPlan) (free : Free) (num : Numbers Kind) (names : List Kind) (g : Grammar)
    → IsWritten p free num names g
    → ((r : ℕ) (s : List Activity) (long : Window) → In (work r s long) names
    → IsStretchSet p (free r s) s long.hi → StretchLaw p num g r s long)
    × (1 ≤ p.starts → (tag : List ℕ) (ds : List PeriodDuty) → In (day tag ds) names → Each (IsGoodDuty p free) ds
    → DayLaw p num g (day tag ds) ds)
    × (1 ≤ p.starts → (dss : List NamedLines) → In (start dss) names
    → Each (λ (x : NamedLines). Each (IsGoodDuty p free) x.lines) dss
    → DayLaw p num g (start dss) (all_lines dss))
