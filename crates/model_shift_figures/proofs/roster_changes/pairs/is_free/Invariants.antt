use Rattle.model_shift_figures.specs.roster_changes.Matchings.{choice, IsFree}
use Rattle.model_shift_figures.proofs.roster_changes.pairs.is_free.Given as goal

abbrev pub invariant-loop-at : goal.invariant-loop-at
invariant-loop-at l = IsFree l.at (choice l.matching) l.place
