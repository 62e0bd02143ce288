use Rattle.model_rosters.proofs.ReachBits.{HasPassed}
use Rattle.model_rosters.proofs.unit_rules.pass_through.Given as goal

abbrev pub invariant-loop-row : goal.invariant-loop-row
invariant-loop-row l = HasPassed l.fn.reach l.reach l.pivot l.row-index
