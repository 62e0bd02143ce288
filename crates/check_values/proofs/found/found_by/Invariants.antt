use Rattle.std.proofs.Common.{take}
use Rattle.tree_span_table.specs.Tables.{IsMadeFor}
use Rattle.check_values.specs.Causes.{AreFound}
use Rattle.check_values.proofs.found.found_by.Given as goal

abbrev pub invariant-loop-place : goal.invariant-loop-place
invariant-loop-place l = record {
  found : AreFound l.instance (take l.place l.shifts) l.found;
  made : IsMadeFor l.instance.grammar l.table;
}
