-- The tables and lists of a roster.
use Rattle.std.specs.Prelude.{Bool, List, length, nat_lt}
use Rattle.model_rosters.specs.declared.instance.Instance.{Instance}
use Rattle.model_rosters.specs.declared.instance.Shift.{Shift}
use Rattle.page_labels.specs.declared.labels.Labels.{Labels}
use Rattle.page_tables.specs.declared.tables.Tables.{Tables}
use Rattle.page_text.specs.declared.column.CellCover.{CellCover}
use Rattle.page_rosters.specs.HeadLines.{heads_of}
use Rattle.page_rosters.specs.MomentLines.{moments_of}
use Rattle.page_rosters.specs.RunLines.{shortages, surplus_lines}
use Rattle.page_rosters.specs.ShiftLines.{lines_of}
use Rattle.page_rosters.specs.TotalLines.{all_covered, totals_of}

-- the day has groups
abbrev pub is_grouped : Instance → Bool
is_grouped i = nat_lt 0 (length i.groups)

-- some shift has a name
abbrev pub is_named : Labels → Bool
is_named d = nat_lt 0 (length d.shifts)

abbrev pub tables_of : Instance → Labels → List Shift → List CellCover → Tables
tables_of i d shifts columns = record {
  grouped = is_grouped i;
  named = is_named d;
  shifts = lines_of i d shifts;
  heads = heads_of i d shifts;
  totals = totals_of i.grammar.codes d shifts columns;
  covered = all_covered columns;
  moments = moments_of i d shifts;
  shortages = shortages i.grammar.codes d columns;
  surplus = surplus_lines i.grammar.codes d columns;
}
