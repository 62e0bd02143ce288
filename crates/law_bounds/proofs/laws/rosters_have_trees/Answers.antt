use Rattle.law_bounds.proofs.RosterTrees.{has-trees}
use Rattle.law_bounds.proofs.SoundReady.{ready}
use Rattle.law_bounds.proofs.laws.rosters_have_trees.Goals as goal

pub returns : goal.returns
returns c = λ i ds ps sound r. has-trees i (ready i sound) ds ps r
