-- The lines of the table of codes.
use Rattle.std.specs.Prelude.{ℕ, ◌+◌, Option, List, [], ◌∷◌, nat_eq, if◌then◌else◌}
use Rattle.model_rosters.specs.declared.grammar.CodeDef.{CodeDef}
use Rattle.model_rosters.specs.declared.instance.Shift.{Shift}
use Rattle.page_labels.specs.declared.labels.Labels.{Labels}
use Rattle.page_tables.specs.declared.line.TotalLine.{TotalLine}
use Rattle.page_text.specs.declared.column.CellCover.{CellCover}
use Rattle.model_shift_figures.specs.Shares.{covered_share}
use Rattle.model_shift_figures.specs.Totals.{code_total}
use Rattle.page_rosters.specs.Called.{code_called}

-- a sum to which is added how many employees are needed for a code, and one of how many are missing
abbrev pub needed : ℕ → List CellCover → ℕ → ℕ
needed code [] sum = sum
needed code (c ∷ cs) sum = needed code cs (if nat_eq c.code code then sum + c.need else sum)

abbrev pub missing : ℕ → List CellCover → ℕ → ℕ
missing code [] sum = sum
missing code (c ∷ cs) sum = missing code cs (if nat_eq c.code code then sum + c.short else sum)

-- a sum to which is added how many employees are needed in all, and one of how many are missing
abbrev pub all_needed : List CellCover → ℕ → ℕ
all_needed [] sum = sum
all_needed (c ∷ cs) sum = all_needed cs (sum + c.need)

abbrev pub all_missing : List CellCover → ℕ → ℕ
all_missing [] sum = sum
all_missing (c ∷ cs) sum = all_missing cs (sum + c.short)

-- which share of the need is covered in all
abbrev pub all_covered : List CellCover → Option ℕ
all_covered columns = covered_share (all_needed columns 0) (all_missing columns 0)

-- the line of the code at a place
abbrev pub total_line : List CodeDef → Labels → List Shift → List CellCover → ℕ → CodeDef → TotalLine
total_line cs d shifts columns k c = record {
  code = code_called cs d k;
  total = code_total c.byte shifts 0;
  share = covered_share (needed k columns 0) (missing k columns 0);
}

abbrev pub total_lines : List CodeDef → Labels → List Shift → List CellCover → ℕ → List CodeDef
    → List TotalLine
total_lines cs d shifts columns k [] = []
total_lines cs d shifts columns k (x ∷ xs) =
    total_line cs d shifts columns k x ∷ total_lines cs d shifts columns (k + 1) xs

-- a line for each code
abbrev pub totals_of : List CodeDef → Labels → List Shift → List CellCover → List TotalLine
totals_of cs d shifts columns = total_lines cs d shifts columns 0 cs
