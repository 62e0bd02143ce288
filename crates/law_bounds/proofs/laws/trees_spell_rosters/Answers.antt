use Rattle.law_bounds.proofs.SoundReady.{ready}
use Rattle.law_bounds.proofs.SpelledRosters.{spelled-by}
use Rattle.law_bounds.proofs.laws.trees_spell_rosters.Goals as goal

pub returns : goal.returns
returns c = λ i ds ps ts sound prices each roster meets. spelled-by i (ready i sound) ts ds ps prices each roster meets
