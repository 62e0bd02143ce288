-- The lines of the lists of shortages and of surplus.
use Rattle.std.specs.Prelude.{ℕ, List, map, nat_eq, if◌then◌else◌}
use Rattle.model_rosters.specs.declared.grammar.CodeDef.{CodeDef}
use Rattle.page_labels.specs.declared.labels.Labels.{Labels}
use Rattle.page_tables.specs.declared.line.RunLine.{RunLine}
use Rattle.page_text.specs.declared.column.CellCover.{CellCover}
use Rattle.model_shift_figures.specs.Runs.{runs_of}
use Rattle.model_shift_figures.specs.declared.run.Lack.{Lack}
use Rattle.model_shift_figures.specs.declared.run.Run.{Run}
use Rattle.page_rosters.specs.Called.{code_called}
use Rattle.page_rosters.specs.Moments.{begin_text, end_text}

-- what a penalty is of where there are so many employees, and else 0
abbrev pub cost_of : ℕ → ℕ → ℕ
cost_of count penalty = if nat_eq count 0 then 0 else penalty

-- how many employees are missing in a period, and how many are there beyond the need
abbrev pub shortage_of : CellCover → Lack
shortage_of c = record { code = c.code; period = c.period; count = c.short; cost = cost_of c.short c.penalty }

abbrev pub surplus_of : CellCover → Lack
surplus_of c = record { code = c.code; period = c.period; count = c.over; cost = cost_of c.over c.penalty }

-- the line of a run
abbrev pub run_line : List CodeDef → Labels → Run → RunLine
run_line cs d r = record {
  code = code_called cs d r.code;
  first = begin_text d.clock r.first;
  last = end_text d.clock r.last;
  count = r.count;
  cost = r.cost;
}

abbrev pub run_lines : List CodeDef → Labels → List Run → List RunLine
run_lines cs d runs = map (run_line cs d) runs

abbrev pub shortages : List CodeDef → Labels → List CellCover → List RunLine
shortages cs d columns = run_lines cs d (runs_of (map shortage_of columns))

abbrev pub surplus_lines : List CodeDef → Labels → List CellCover → List RunLine
surplus_lines cs d columns = run_lines cs d (runs_of (map surplus_of columns))
