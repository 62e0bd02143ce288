-- A plan of three periods with a line that has a plus and one that has none, and a grammar that is written
-- for it.
use Rattle.std.specs.Prelude.{ℕ, zero, suc, cond, nat_eq, true, false, Some, List, [], ◌∷◌}
use Rattle.model_rosters.specs.declared.grammar.Grammar.{Grammar}
use Rattle.model_rosters.specs.declared.grammar.Window.{Window}
use Rattle.model_rosters.specs.Folds.{Each}
use Rattle.plan_laws.specs.declared.period_plan.Activity.{Activity}
use Rattle.plan_laws.specs.declared.period_plan.PeriodDuty.{PeriodDuty}
use Rattle.plan_laws.specs.declared.period_plan.PeriodPart.TheVariants.{Pausing, Working}
use Rattle.plan_laws.specs.declared.period_plan.PeriodPlan.{PeriodPlan}
use Rattle.plan_laws.specs.Named.{Numbers, all_rules}
use Rattle.plan_laws.specs.Names.{Kind, at, run, block, free_one, any_list, open_list, from, other, work, rest, off, step, steps, lead, duty, day, start, rules_for, Free, IsGoodDuty}
use Rattle.plan_laws.specs.Laws.{IsWritten}

abbrev pub window : ℕ → ℕ → Window
window a b = record { lo = a; hi = b }

-- goods (a) last 1 to 2 periods at 7, a meal (b) one at nothing
abbrev pub goods : Activity
goods = record { code = 97; work = true; least = 1; greatest = 2; amount = 7 }

abbrev pub meal : Activity
meal = record { code = 98; work = false; least = 1; greatest = 1; amount = 0 }

abbrev pub small : PeriodPlan
small = record {
  periods = 3;
  off = 46;
  activities = goods ∷ meal ∷ [];
  extras = [];
  change = Some 5;
  starts = 1;
  first_start = 0;
}

abbrev pub set : List Activity
set = goods ∷ []

-- 1 to 2 periods of goods; and goods, a meal and goods, where a period of goods costs 4 more
abbrev pub short : PeriodDuty
short = record {
  length = window 1 2;
  cost = 1;
  parts = Working set ∷ [];
  begin = window 1 96;
  end = window 1 96;
  stretch = window 1 2;
  plus = 0;
}

abbrev pub long : PeriodDuty
long = record {
  length = window 3 3;
  cost = 2;
  parts = Working set ∷ Pausing meal (Some (window 2 3)) ∷ Working set ∷ [];
  begin = window 1 96;
  end = window 1 96;
  stretch = window 1 2;
  plus = 4;
}

abbrev pub lines : List PeriodDuty
lines = short ∷ long ∷ []

-- a letter's number among the names: of goods without and with plus, of a meal
abbrev pub number_at : ℕ → ℕ → ℕ
number_at zero c = cond (nat_eq c 97) 8 10
number_at (suc r) c = 9

abbrev pub number_block : ℕ → ℕ → ℕ
number_block zero c = cond (nat_eq c 97) 5 7
number_block (suc r) c = 6

abbrev pub number_work : ℕ → ℕ
number_work zero = 3
number_work (suc r) = 4

abbrev pub number_of : Kind → ℕ
number_of (at r a) = number_at r a.code
number_of (block r a) = number_block r a.code
number_of (run r a) = 12
number_of (free_one r s) = 13
number_of (any_list r s) = 14
number_of (open_list r s) = 15
number_of (from r s a) = 16
number_of (other r s a) = 17
number_of (work r s range) = number_work r
number_of (rest r a begin) = 11
number_of off = 2
number_of step = 18
number_of steps = 19
number_of lead = 20
number_of (duty tag ds) = 1
number_of (day tag ds) = 0
number_of (start dss) = 21

-- no activity is free
abbrev pub bound : Free
bound r s a = false

abbrev pub numbers : Numbers Kind
numbers = record { letter = λ c. cond (nat_eq c 97) 0 (cond (nat_eq c 98) 1 2); name = number_of }

abbrev pub names : List Kind
names = day [] lines ∷ duty [] lines ∷ off ∷ work 0 set (window 1 2) ∷ work 4 set (window 1 2) ∷ block 0 goods
    ∷ block 4 goods ∷ block 0 meal ∷ at 0 goods ∷ at 4 goods ∷ at 0 meal
    ∷ rest 0 meal (Some (window 2 3)) ∷ []

abbrev pub grammar : Grammar
grammar = record {
  periods = 3;
  codes = record { byte = 97; work = true } ∷ record { byte = 98; work = false }
      ∷ record { byte = 46; work = false } ∷ [];
  names = [];
  rules = all_rules numbers (rules_for small bound) names;
  start = 0;
}

-- the grammar is written for the plan, whose duty [] lines are good ones
pub record AreMet : Type 0 where
  pub written : IsWritten small bound numbers names grammar
  pub lines_good : Each (IsGoodDuty small bound) lines
