use Rattle.law_bounds.proofs.RosterTrees.{not-infeasible}
use Rattle.law_bounds.proofs.SoundReady.{ready}
use Rattle.law_bounds.proofs.laws.infeasible_has_none.Goals as goal

pub returns : goal.returns
returns c = λ i ds ps sound r infeasible. not-infeasible i (ready i sound) ds ps r infeasible
