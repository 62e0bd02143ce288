-- The lines of the table of employees.
use Rattle.std.specs.Prelude.{ℕ, ◌+◌, List, [], ◌∷◌, codes, length}
use Rattle.model_rosters.specs.declared.instance.Group.{Group}
use Rattle.model_rosters.specs.declared.instance.Instance.{Instance}
use Rattle.model_rosters.specs.declared.instance.Shift.{Shift}
use Rattle.page_labels.specs.declared.labels.Labels.{Labels}
use Rattle.page_tables.specs.declared.line.HeadLine.{HeadLine}
use Rattle.model_shift_figures.specs.Totals.{group_count}
use Rattle.page_rosters.specs.Called.{group_called}

-- the line of all employees
abbrev pub all_heads : Instance → List Shift → HeadLine
all_heads i shifts =
    record { group = codes "all"; count = length shifts; least = i.heads_min; most = i.heads_max }

-- the line of a group
abbrev pub group_line : Instance → Labels → List Shift → ℕ → Group → HeadLine
group_line i d shifts n g = record {
  group = group_called i d n;
  count = group_count n shifts;
  least = g.heads_min;
  most = g.heads_max;
}

-- the lines of groups from a number on
abbrev pub group_lines : Instance → Labels → List Shift → ℕ → List Group → List HeadLine
group_lines i d shifts n [] = []
group_lines i d shifts n (g ∷ gs) = group_line i d shifts n g ∷ group_lines i d shifts (n + 1) gs

-- a line for all employees, and behind it one for each group
abbrev pub heads_of : Instance → Labels → List Shift → List HeadLine
heads_of i d shifts = all_heads i shifts ∷ group_lines i d shifts 1 i.groups
