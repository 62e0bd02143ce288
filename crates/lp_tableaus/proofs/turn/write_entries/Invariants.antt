use Rattle.std.proofs.Common.{length}
use Rattle.lp_tableaus.specs.Lines.{AreEntries}
use Rattle.lp_tableaus.proofs.turn.write_entries.Given as goal

abbrev pub invariant-loop-row : goal.invariant-loop-row
invariant-loop-row l = AreEntries (length l.rows) l.rows l.column l.entries l.row
