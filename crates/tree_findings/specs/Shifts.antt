-- The shifts of a day.
use Rattle.tree_findings.specs.declared.shifts.Shifts.{Shifts}
use Rattle.tree_findings.specs.Marks.{IsUseOf}

-- what is told is what the trees of both grammars use
pub record AreShifts (s : Shifts) : Type 0 where
  pub own : IsUseOf s.own.now s.own_used.now
  pub day : IsUseOf s.day.now s.day_used.now
