use Rattle.std.proofs.Common.{◌+◌, ◌-◌, ◌*◌, length}
use Rattle.model_shift_figures.specs.roster_changes.Stages.{IsBestBelow}
use Rattle.model_shift_figures.proofs.roster_changes.search.+search.Given as goal

abbrev pub decreases-best_with : goal.decreases-best_with
decreases-best_with l = 2 * (length l.new.now - length l.fixed.now)

abbrev pub decreases-best_of : goal.decreases-best_of
decreases-best_of l = 2 * (length l.new.now - length l.fixed.now) + 1

abbrev pub invariant-best_of-loop-place : goal.invariant-best_of-loop-place
invariant-best_of-loop-place l = IsBestBelow l.periods l.old l.new l.row l.fixed l.place l.best.items
