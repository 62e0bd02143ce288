use Rattle.std.proofs.Common.{length, ◌≡◌}
use Rattle.lp_tableaus.specs.Lines.{AreStepped, AreLines}
use Rattle.lp_tableaus.proofs.turn.step_rows.Given as goal

abbrev pub invariant-loop-row : goal.invariant-loop-row
invariant-loop-row l = record {
  stepped : AreStepped l.fn.rows l.entries l.leaving l.rows l.row;
  lines : AreLines (length l.fn.rows) l.rows;
  tally : l.tally ≡ l.fn.tally;
}
