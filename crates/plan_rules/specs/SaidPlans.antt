-- What a plan text says of a plan, beside whole periods and small numbers: then its rules are sound.
use Rattle.std.specs.Prelude.{ℕ, ◌≢◌, ◌≤◌, not, Option, None, Some, List, [], ◌∷◌, length}
use Rattle.model_rosters.specs.Folds.{Each, count}
use Rattle.plan_meaning.specs.declared.plan.Duty.{Duty}
use Rattle.plan_meaning.specs.declared.plan.Part.{Part}
use Rattle.plan_meaning.specs.declared.plan.Part.TheVariants.{Pause, Work}
use Rattle.plan_meaning.specs.declared.plan.Plan.{Plan}
use Rattle.plan_meaning.specs.declared.plan.PlanCode.{PlanCode}
use Rattle.plan_meaning.specs.declared.plan.Times.{Times}
use Rattle.plan_meaning.specs.Times.{begin_behind, end_behind, periods}
use Rattle.plan_meaning.specs.Whole.{IsFirstStart}
use Rattle.plan_laws.specs.declared.period_plan.Activity.{Activity}
use Rattle.plan_laws.specs.declared.period_plan.NamedLines.{NamedLines}
use Rattle.plan_laws.specs.PeriodShifts.{change_cost, letter_cost}
use Rattle.plan_laws.specs.PlanRules.{set_of}
use Rattle.plan_laws.specs.Turned.{per_period, turned, turned_starts}
use Rattle.plan_periods.specs.FitPlans.{IsFitPlan}
use Rattle.plan_rules.specs.PlanSays.{AreLinesOf}
use Rattle.plan_rules.specs.Writable.{AreFineNames, IsFineCode, IsWritable}

-- no two lines have one code
abbrev pub HaveOwnCodes : List PlanCode → Type 0
HaveOwnCodes [] = Unit {0}
HaveOwnCodes (c ∷ cs) = Each (λ (b : PlanCode). b.code ≢ c.code) cs × HaveOwnCodes cs

-- the first time is not later than the second
abbrev pub AreOrderedBegins : Plan → Option Times → Type 0
AreOrderedBegins p None = Unit {0}
AreOrderedBegins p (Some t) = begin_behind p.day t.from ≤ begin_behind p.day t.to

-- ... and the first period has ended
abbrev pub AreOrderedEnds : Plan → Option Times → Type 0
AreOrderedEnds p None = Unit {0}
AreOrderedEnds p (Some t) = (p.day.minutes ≤ end_behind p.day t.from)
    × (end_behind p.day t.from ≤ end_behind p.day t.to)

-- no period of the code costs more than 10,000 units by a line whose hours cost so much more
abbrev pub IsCheap : Plan → ℕ → ℕ → Type 0
IsCheap p plus code =
    (i : ℕ) → 1 ≤ i → i ≤ periods p → letter_cost (turned p 0) (per_period p plus) code i ≤ 10000

abbrev pub IsSaidPart : Plan → ℕ → Part → Type 0
IsSaidPart p plus (Work codes) = (1 ≤ length (set_of p codes)) × (length (set_of p codes) ≤ 8)
    × Each (λ (a : Activity). IsCheap p plus a.code) (set_of p codes)
IsSaidPart p plus (Pause code times) = IsCheap p plus code × AreOrderedBegins p times

pub record IsSaidDuty (p : Plan) (d : Duty) : Type 0 where
  pub cost : d.cost ≤ 10000
  pub some : 1 ≤ length d.parts
  pub few : length d.parts ≤ 8
  pub begins : AreOrderedBegins p d.begins
  pub ends : AreOrderedEnds p d.ends
  pub parts : Each (IsSaidPart p d.plus) d.parts

pub record IsSaidPlan (p : Plan) : Type 0 where
  pub some : 1 ≤ periods p
  pub codes : Each (λ (c : PlanCode). IsFineCode c.code) p.codes
  pub apart : HaveOwnCodes p.codes
  pub few_work : count (λ (c : PlanCode). c.work) p.codes ≤ 8
  pub few_pauses : count (λ (c : PlanCode). not c.work) p.codes ≤ 23
  pub change : change_cost (turned p 0) ≤ 10000
  pub starts : 1 ≤ turned_starts p p.starts
  pub few_starts : turned_starts p p.starts ≤ 8
  pub duties : Each (IsSaidDuty p) p.duties

-- duty names, each with a line
pub record AreSaidNames (xs : List NamedLines) : Type 0 where
  pub names : AreFineNames xs
  pub some : Each (λ (x : NamedLines). 1 ≤ length x.lines) xs

-- a fit plan that a text says is writable in numbers of periods
abbrev pub SaidLaw : Type 0
SaidLaw = (p : Plan) (first : ℕ) (xs : List NamedLines)
    → IsFitPlan p → IsFirstStart p p.starts first → IsSaidPlan p → AreLinesOf p xs → AreSaidNames xs
    → IsWritable (turned p first) xs
