use Rattle.model_shift_figures.specs.roster_changes.Matchings.{choice}
use Rattle.model_shift_figures.specs.roster_changes.Stages.{Fits}
use Rattle.model_shift_figures.proofs.roster_changes.pairs.fits.Given as goal

abbrev pub invariant-loop-at : goal.invariant-loop-at
invariant-loop-at l = Fits l.old l.new l.at (choice l.matching)
