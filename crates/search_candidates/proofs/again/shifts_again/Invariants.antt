use Rattle.std.proofs.Common.{take}
use Rattle.search_candidates.specs.Again.{AreShiftsAgain}
use Rattle.search_candidates.specs.Order.{AreAscending}
use Rattle.search_candidates.specs.Rosters.{IsWorkspaceFor}
use Rattle.search_candidates.proofs.again.shifts_again.Given as goal

abbrev pub invariant-loop-shift : goal.invariant-loop-shift
invariant-loop-shift l = record {
  again : AreShiftsAgain l.instance (take l.shift-index l.shifts) l.found.items;
  ascending : AreAscending l.found.items;
  workspace : IsWorkspaceFor l.instance l.workspace;
}
