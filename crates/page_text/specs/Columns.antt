-- How a roster covers a cell.
use Rattle.std.specs.Prelude.{List}
use Rattle.model_rosters.specs.declared.grammar.Grammar.{Grammar}
use Rattle.model_rosters.specs.declared.instance.Cell.{Cell}
use Rattle.model_rosters.specs.Coverage.{covered, understaffing, overstaffing, penalty}
use Rattle.model_rosters.specs.Duties.{Duty}
use Rattle.page_text.specs.declared.column.CellCover.{CellCover}

-- how the employees cover a cell, and what that costs
abbrev pub column_of : Grammar → List Duty → Cell → CellCover
column_of g ds c = record {
  code = c.code;
  period = c.period;
  need = c.need;
  have = covered g c ds;
  short = understaffing c (covered g c ds);
  over = overstaffing c (covered g c ds);
  floor = c.floor;
  ceiling = c.ceiling;
  penalty = penalty c (covered g c ds);
}
