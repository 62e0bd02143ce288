-- A plan of minutes and of units an hour, in numbers of periods and in units a period.
use Rattle.std.specs.Prelude.{ℕ, ◌+◌, ◌*◌, ◌/◌, ◌↔◌, Bool, true, false, cond, nat_eq, Option, None, Some, List, [], ◌∷◌, map}
use Rattle.std.specs.List.{list_any}
use Rattle.std.specs.Str.{bytes_eq}
use Rattle.model_rosters.specs.declared.grammar.Window.{Window}
use Rattle.model_rosters.specs.Folds.{In}
use Rattle.plan_meaning.specs.declared.plan.Duty.{Duty}
use Rattle.plan_meaning.specs.declared.plan.Extra.{Extra}
use Rattle.plan_meaning.specs.declared.plan.Lengths.{Lengths}
use Rattle.plan_meaning.specs.declared.plan.Part.{Part}
use Rattle.plan_meaning.specs.declared.plan.Part.TheVariants.{Pause, Work}
use Rattle.plan_meaning.specs.declared.plan.Plan.{Plan}
use Rattle.plan_meaning.specs.declared.plan.PlanCode.{PlanCode}
use Rattle.plan_meaning.specs.declared.plan.Times.{Times}
use Rattle.plan_meaning.specs.Times.{begin_behind, end_behind, periods}
use Rattle.plan_meaning.specs.Shifts as meaning
use Rattle.plan_meaning.specs.Shifts.{off, stretch_of}
use Rattle.plan_meaning.specs.Whole.{IsFirstStart, IsWholePlan}
use Rattle.plan_laws.specs.declared.period_plan.Activity.{Activity}
use Rattle.plan_laws.specs.declared.period_plan.PeriodDuty.{PeriodDuty}
use Rattle.plan_laws.specs.declared.period_plan.PeriodExtra.{PeriodExtra}
use Rattle.plan_laws.specs.declared.period_plan.PeriodPart.{PeriodPart}
use Rattle.plan_laws.specs.declared.period_plan.PeriodPart.TheVariants.{Pausing, Working}
use Rattle.plan_laws.specs.declared.period_plan.PeriodPlan.{PeriodPlan}
use Rattle.plan_laws.specs.Names.{chosen, whole}
use Rattle.plan_laws.specs.PeriodShifts.{IsPriceOf, IsShiftBy}

-- what a period costs of which an hour costs so much
abbrev pub per_period : Plan → ℕ → ℕ
per_period p hour = hour * p.day.minutes / 60

-- a length or a moment as a number of periods
abbrev pub count_of : Plan → ℕ → ℕ
count_of p minutes = minutes / p.day.minutes

abbrev pub turned_lengths : Plan → Lengths → Window
turned_lengths p x = record { lo = count_of p x.least; hi = count_of p x.greatest }

abbrev pub turned_code : Plan → PlanCode → Activity
turned_code p c = record {
  code = c.code;
  work = c.work;
  least = count_of p c.lasts.least;
  greatest = count_of p c.lasts.greatest;
  amount = per_period p c.hour;
}

-- the periods that begin between two times
abbrev pub begin_window : Plan → Times → Window
begin_window p t = record {
  lo = count_of p (begin_behind p.day t.from) + 1;
  hi = count_of p (begin_behind p.day t.to) + 1;
}

-- the periods that end between two times
abbrev pub end_window : Plan → Times → Window
end_window p t = record {
  lo = count_of p (end_behind p.day t.from);
  hi = count_of p (end_behind p.day t.to);
}

-- the periods between a begin and an end
abbrev pub between : Plan → Times → Window
between p t = record {
  lo = count_of p (begin_behind p.day t.from) + 1;
  hi = count_of p (end_behind p.day t.to);
}

abbrev pub turned_begins : Plan → Option Times → Window
turned_begins p None = whole
turned_begins p (Some t) = begin_window p t

abbrev pub turned_ends : Plan → Option Times → Window
turned_ends p None = whole
turned_ends p (Some t) = end_window p t

abbrev pub turned_pause : Plan → Option Times → Option Window
turned_pause p None = None
turned_pause p (Some t) = Some (begin_window p t)

abbrev pub turned_extra : Plan → Extra → PeriodExtra
turned_extra p e = record { code = e.code; periods = between p e.times; amount = per_period p e.hour }

-- the activity's code is one of these
abbrev pub has_code : List ℕ → Activity → Bool
has_code codes a = list_any (λ c. nat_eq c a.code) codes

-- the first activity of this code; one that lasts no period where there is none
abbrev pub coded : List Activity → ℕ → Activity
coded [] code = record { code = code; work = false; least = 0; greatest = 0; amount = 0 }
coded (a ∷ as_well) code = cond (nat_eq a.code code) a (coded as_well code)

abbrev pub turned_codes : Plan → List Activity
turned_codes p = map (turned_code p) p.codes

abbrev pub turned_part : Plan → Part → PeriodPart
turned_part p (Work codes) = Working (chosen (has_code codes) (turned_codes p))
turned_part p (Pause code times) = Pausing (coded (turned_codes p) code) (turned_pause p times)

-- a duty line in numbers of periods
abbrev pub turned_duty : Plan → Duty → PeriodDuty
turned_duty p d = record {
  length = turned_lengths p d.lasts;
  cost = d.cost;
  parts = map (turned_part p) d.parts;
  begin = turned_begins p d.begins;
  end = turned_ends p d.ends;
  stretch = turned_lengths p (stretch_of p d);
  plus = per_period p d.plus;
}

abbrev pub turned_starts : Plan → Option ℕ → ℕ
turned_starts p None = 1
turned_starts p (Some starts) = count_of p starts

-- the plan in numbers of periods, where the first start is behind so many
abbrev pub turned : Plan → ℕ → PeriodPlan
turned p first = record {
  periods = periods p;
  off = off;
  activities = turned_codes p;
  extras = map (turned_extra p) p.extras;
  change = p.change;
  starts = turned_starts p p.starts;
  first_start = first;
}

-- the line is one of this name, or any where there is none
abbrev pub is_named : Option (List ℕ) → Duty → Bool
is_named None d = true
is_named (Some name) d = bytes_eq d.name name

abbrev pub named_lines : Option (List ℕ) → List Duty → List Duty
named_lines name [] = []
named_lines name (d ∷ ds) = cond (is_named name d) (d ∷ named_lines name ds) (named_lines name ds)

-- the duty lines of a name in numbers of periods, or all
abbrev pub turned_lines : Plan → Option (List ℕ) → List PeriodDuty
turned_lines p name = map (turned_duty p) (named_lines name p.duties)

-- A plan and its numbers of periods have the same shifts of each duty line, at the same prices, and so of
-- each name.
pub record SameMeaning (p : Plan) (first : ℕ) : Type 0 where
  pub shifts : (d : Duty) (w : List ℕ) (price : ℕ) → In d p.duties
      → meaning.IsShiftBy p d w price ↔ IsShiftBy (turned p first) (turned_duty p d) w price
  pub prices : (name : Option (List ℕ)) (w : List ℕ) (price : ℕ)
      → meaning.IsPriceOf p name w price ↔ IsPriceOf (turned p first) (turned_lines p name) w price

abbrev pub TurningLaw : Type 0
TurningLaw = (p : Plan) (first : ℕ) → IsWholePlan p → IsFirstStart p p.starts first → SameMeaning p first
