-- The labels text of a plan.
use Rattle.std.specs.Prelude.{ℕ, Bool, true, false, ◌/◌, List, [], ◌∷◌, ◌++◌, codes, length, nat_eq, nat_lt, Option, None, Some, if◌then◌else◌}
use Rattle.std.specs.Fmt.{decimal}
use Rattle.plan_meaning.specs.declared.plan.Money.{Money}
use Rattle.plan_meaning.specs.declared.plan.Plan.{Plan}
use Rattle.plan_meaning.specs.declared.plan.PlanCode.{PlanCode}
use Rattle.plan_meaning.specs.declared.plan.PlanDay.{PlanDay}
use Rattle.plan_meaning.specs.declared.plan.Staff.{Staff}
use Rattle.plan_meaning.specs.Shifts.{off}
use Rattle.plan_meaning.specs.Times.{begin_minute}
use Rattle.plan_words.specs.ClockText.{clock_text}
use Rattle.text_lines.specs.Written.{written}

-- the words of a line
abbrev pub Line : Type 0
Line = List (List ℕ)

-- the title, where there is one
unfoldable pub title_lines : List ℕ → List Line
title_lines title = if nat_eq (length title) 0 then [] else (codes "title" ∷ title ∷ []) ∷ []

-- when the day begins by the clock, and the minutes of a period
abbrev pub clock_line : PlanDay → Line
clock_line d = codes "clock" ∷ clock_text (begin_minute d) ∷ decimal d.minutes ∷ []

-- what a code is called
abbrev pub code_line : PlanCode → Line
code_line c = codes "code" ∷ (c.code ∷ []) ∷ c.words ∷ []

abbrev pub paid_line : PlanCode → Line
paid_line c = codes "paid" ∷ (c.code ∷ []) ∷ codes "yes" ∷ []

-- a code of work
unfoldable pub work_lines : PlanCode → List Line
work_lines c = if c.work then code_line c ∷ [] else []

-- a pause that costs is paid
unfoldable pub paid_lines : PlanCode → List Line
paid_lines c = if nat_lt 0 c.hour then paid_line c ∷ [] else []

-- a pause, and behind it whether it is paid
unfoldable pub pause_lines : PlanCode → List Line
pause_lines c = if c.work then [] else code_line c ∷ paid_lines c

-- the lines of each code of work
abbrev pub all_work_lines : List PlanCode → List Line
all_work_lines [] = []
all_work_lines (c ∷ cs) = work_lines c ++ all_work_lines cs

-- the lines of each pause
abbrev pub all_pause_lines : List PlanCode → List Line
all_pause_lines [] = []
all_pause_lines (c ∷ cs) = pause_lines c ++ all_pause_lines cs

-- time off
abbrev pub off_line : Line
off_line = codes "off" ∷ (off ∷ []) ∷ []

-- what the employees of a duty name are called, where the staff line says it
unfoldable pub named_lines : List ℕ → List ℕ → List Line
named_lines name words =
    if nat_eq (length words) 0 then [] else (codes "group" ∷ name ∷ words ∷ []) ∷ []

unfoldable pub group_lines : Staff → List Line
group_lines s = elim s.name [ None ↦ [] | Some name ↦ named_lines name s.words ]

abbrev pub all_group_lines : List Staff → List Line
all_group_lines [] = []
all_group_lines (s ∷ ss) = group_lines s ++ all_group_lines ss

-- how many decimals amounts have, where they have some
unfoldable pub decimals_lines : ℕ → List Line
decimals_lines n = if nat_lt 0 n then (codes "decimals" ∷ decimal n ∷ []) ∷ [] else []

-- what amounts are counted in, where it is said
unfoldable pub money_lines : Option Money → List Line
money_lines None = []
money_lines (Some m) = (codes "money" ∷ m.name ∷ []) ∷ decimals_lines m.decimals

-- the day: its title and its clock
abbrev pub day_lines : Plan → List Line
day_lines p = title_lines p.title ++ clock_line p.day ∷ []

-- the codes of work, then the pauses, then time off
abbrev pub code_lines : Plan → List Line
code_lines p = all_work_lines p.codes ++ (all_pause_lines p.codes ++ off_line ∷ [])

-- the lines of all that a plan calls
abbrev pub label_lines : Plan → List Line
label_lines p = day_lines p ++ (code_lines p ++ (all_group_lines p.staff ++ money_lines p.money))

-- ... as a text
abbrev pub labels_text : Plan → List ℕ
labels_text p = written (label_lines p)
