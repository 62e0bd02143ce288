-- How many begin and end at each time: stretches where time off is named, else work.
use Rattle.std.specs.Prelude.{ℕ, ◌+◌, Option, None, Some, List, [], ◌∷◌, ◌++◌, ◌||◌, count_by, nat_eq, nat_lt, if◌then◌else◌}
use Rattle.std.specs.List.{flat_map}
use Rattle.model_rosters.specs.declared.grammar.CodeDef.{CodeDef}
use Rattle.model_rosters.specs.declared.instance.Instance.{Instance}
use Rattle.model_rosters.specs.declared.instance.Shift.{Shift}
use Rattle.page_labels.specs.declared.clock.Clock.{Clock}
use Rattle.page_labels.specs.declared.labels.Labels.{Labels}
use Rattle.page_parts.specs.Elements.{places}
use Rattle.page_tables.specs.declared.line.MomentLine.{MomentLine}
use Rattle.model_shift_figures.specs.Stretches.{stretch_of, stretches_of}
use Rattle.model_shift_figures.specs.declared.stretch.Stretch.{Stretch}
use Rattle.page_rosters.specs.Moments.{moment}

-- a stretch, where there is one
abbrev pub lone : Option Stretch → List Stretch
lone None = []
lone (Some t) = t ∷ []

-- the stretches of a shift that are counted
abbrev pub counted : List CodeDef → Option ℕ → Shift → List Stretch
counted cs None s = lone (stretch_of cs s.word)
counted cs (Some code) s = stretches_of (Some code) s.word

abbrev pub all_counted : List CodeDef → Option ℕ → List Shift → List Stretch
all_counted cs off shifts = flat_map (counted cs off) shifts

-- the period that begins at a time behind so many periods, or without a clock the period of a number
abbrev pub begun : Option Clock → ℕ → ℕ
begun None passed = passed
begun (Some c) passed = passed + 1

-- the line of a time
abbrev pub moment_line : Option Clock → List Stretch → ℕ → MomentLine
moment_line clock ts passed = record {
  time = moment clock passed passed;
  begins = count_by (λ (t : Stretch). nat_eq t.first (begun clock passed)) ts;
  ends = count_by (λ (t : Stretch). nat_eq t.last passed) ts;
}

-- the same, where any begin or end then
unfoldable pub shown_line : MomentLine → List MomentLine
shown_line l = if nat_lt 0 l.begins || nat_lt 0 l.ends then l ∷ [] else []

abbrev pub moment_at : Option Clock → List Stretch → ℕ → List MomentLine
moment_at clock ts passed = shown_line (moment_line clock ts passed)

abbrev pub moment_behind : Option Clock → List Stretch → ℕ → List MomentLine
moment_behind clock ts place = moment_at clock ts (place + 1)

-- a line for each time from the day's begin to its end
abbrev pub moments_in : Option Clock → ℕ → List Stretch → List MomentLine
moments_in clock periods ts = moment_at clock ts 0 ++ flat_map (moment_behind clock ts) (places periods)

abbrev pub moments_of : Instance → Labels → List Shift → List MomentLine
moments_of i d shifts = moments_in d.clock i.grammar.periods (all_counted i.grammar.codes d.off shifts)
