use Rattle.std.proofs.Common.{◌-◌, length}
use Rattle.model_shift_figures.specs.roster_changes.Stages.{IsFixing}
use Rattle.model_shift_figures.proofs.roster_changes.stages.changes_of.Given as goal

abbrev pub invariant-fixing : goal.invariant-fixing
invariant-fixing l = IsFixing l.periods l.old l.new l.fixed

abbrev pub decreases-fixing : goal.decreases-fixing
decreases-fixing l = length l.new - length l.fixed
