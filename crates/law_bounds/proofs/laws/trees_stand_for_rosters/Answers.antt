use Rattle.law_bounds.proofs.RosterTrees.{stand-for}
use Rattle.law_bounds.proofs.SoundReady.{ready}
use Rattle.law_bounds.proofs.laws.trees_stand_for_rosters.Goals as goal

pub returns : goal.returns
returns c = λ i ds ps ts sound r k. stand-for i (ready i sound) ds ps ts r k
