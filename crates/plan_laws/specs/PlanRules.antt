-- The law between a plan, as it is written, and the grammar that is written for it.
use Rattle.std.specs.Prelude.{ℕ, ◌≤◌, ◌↔◌, IsTrue, Option, None, List, length}
use Rattle.model_rosters.specs.declared.grammar.Grammar.{Grammar}
use Rattle.model_rosters.specs.Folds.{Each, In}
use Rattle.model_rosters.specs.Shifts.{IsPrice, IsShift}
use Rattle.plan_meaning.specs.declared.plan.Duty.{Duty}
use Rattle.plan_meaning.specs.declared.plan.Lengths.{Lengths}
use Rattle.plan_meaning.specs.declared.plan.Part.{Part}
use Rattle.plan_meaning.specs.declared.plan.Part.TheVariants.{Pause, Work}
use Rattle.plan_meaning.specs.declared.plan.Plan.{Plan}
use Rattle.plan_meaning.specs.Shifts as meaning
use Rattle.plan_meaning.specs.Shifts.{stretch_of}
use Rattle.plan_meaning.specs.Whole.{IsFirstStart, IsWholePlan}
use Rattle.plan_laws.specs.declared.period_plan.Activity.{Activity}
use Rattle.plan_laws.specs.declared.period_plan.NamedLines.{NamedLines}
use Rattle.plan_laws.specs.declared.period_plan.PeriodDuty.{PeriodDuty}
use Rattle.plan_laws.specs.Laws.{IsWritten, all_lines}
use Rattle.plan_laws.specs.Named.{Numbers}
use Rattle.plan_laws.specs.Names.{Free, Kind, chosen, day, start}
use Rattle.plan_laws.specs.Turned.{count_of, has_code, per_period, turned, turned_codes, turned_lines}

-- the activities of a part of work
abbrev pub set_of : Plan → List ℕ → List Activity
set_of p codes = chosen (has_code codes) (turned_codes p)

-- a free activity's greatest block is as long as the longest stretch
abbrev pub IsFitPart : Plan → Free → ℕ → Lengths → Part → Type 0
IsFitPart p free plus range (Work codes) =
    (a : Activity) → In a (set_of p codes) → IsTrue (free plus (set_of p codes) a)
    → count_of p range.greatest ≤ a.greatest
IsFitPart p free plus range (Pause code times) = Unit {0}

-- so it is in each part of a duty line, which has one at least
pub record IsFitDuty (p : Plan) (free : Free) (d : Duty) : Type 0 where
  pub parts : Each (IsFitPart p free (per_period p d.plus) (stretch_of p d)) d.parts
  pub some : 1 ≤ length d.parts

-- the same lines, in any order and number
abbrev pub AreSame : List PeriodDuty → List PeriodDuty → Type 0
AreSame ds es = (d : PeriodDuty) → In d ds ↔ In d es

-- a name of the grammar has exactly the shifts of a duty name, or of all lines, each at exactly its price
pub record SaysName (p : Plan) (g : Grammar) (x : ℕ) (name : Option (List ℕ)) : Type 0 where
  pub shifts : (w : List ℕ) → IsShift g x w ↔ meaning.IsShiftOf p name w
  pub prices : (w : List ℕ) (price : ℕ) → IsPrice g x w price ↔ meaning.IsPriceOf p name w price

-- The grammar is written for the plan's numbers of periods: a name of duty lines says the duty name whose lines
-- these are, and a name over several such names says all lines.
pub record SaysPlan (p : Plan) (num : Numbers Kind) (names : List Kind) (g : Grammar) : Type 0 where
  pub duties : (name : Option (List ℕ)) (tag : List ℕ) (ds : List PeriodDuty) → In (day tag ds) names
      → AreSame ds (turned_lines p name) → SaysName p g (num.name (day tag ds)) name
  pub all : (dss : List NamedLines) → In (start dss) names
      → AreSame (all_lines dss) (turned_lines p None) → SaysName p g (num.name (start dss)) None

abbrev pub RulesLaw : Type 0
RulesLaw =
    (p : Plan) (first : ℕ) → IsWholePlan p → IsFirstStart p p.starts first
    → (free : Free) → Each (IsFitDuty p free) p.duties
    → (num : Numbers Kind) (names : List Kind) (g : Grammar) → IsWritten (turned p first) free num names g
    → SaysPlan p num names g
