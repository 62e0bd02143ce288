use Rattle.model_shift_figures.specs.roster_changes.Matchings.{choice}
use Rattle.model_shift_figures.specs.roster_changes.Stages.{Extends}
use Rattle.model_shift_figures.proofs.roster_changes.pairs.extends.Given as goal

abbrev pub invariant-loop-at : goal.invariant-loop-at
invariant-loop-at l = Extends l.at (choice l.fixed) (choice l.matching)
