use Rattle.std.proofs.Common.{◌≡◌, ◌++◌, take}
use Rattle.page_parts.specs.Elements.{each_from, written}
use Rattle.page_text.specs.RosterChart.{row_elements}
use Rattle.page_text.proofs.roster_chart.rows.Given as goal

abbrev pub invariant-loop-shift : goal.invariant-loop-shift
invariant-loop-shift l = record {
  out : l.out ≡ l.fn.out ++ written (each_from (row_elements l.money l.sheet l.codes l.off) 0 (take l.shift-index l.rows));
  place : l.place ≡ l.shift-index;
}
