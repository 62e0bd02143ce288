use Rattle.std.proofs.Common.{◌≡◌, ◌≤◌}
use Rattle.lp_tableaus.specs.Running.{IsRunning}
use Rattle.lp_tableaus.proofs.run.run.Given as goal

abbrev pub invariant-turns : goal.invariant-turns
invariant-turns g l = record {
  ready : g.C.Columns.Ready (g.C.Columns.state l.columns);
  site : g.C.Columns.site l.columns ≡ g.C.Columns.site l.fn.columns;
  kept : g.C.Columns.Kept (g.C.Columns.state l.fn.columns) (g.C.Columns.state l.columns);
  running : IsRunning {K = g.C.Columns.Key} (g.C.Columns.program (g.C.Columns.site l.fn.columns)) (g.C.Columns.Lists (g.C.Columns.state l.columns)) l.sheet.rows l.sheet.cost l.sheet.basis.items l.sheet.entries l.sheet.prices l.sheet.pivot l.pivots l.budget;
  wide : l.fn.tally.wide ≤ l.tally.wide;
  spent : l.fn.tally.spent ≤ l.tally.spent;
}

abbrev pub decreases-turns : goal.decreases-turns
decreases-turns g l = l.budget
