use Rattle.model_rosters.proofs.arc_laws.OneList.{one-list}
use Rattle.model_rosters.proofs.arc_laws.laws.one_list.Goals as goal

pub returns : goal.returns
returns c = λ g xs ys h k. one-list g xs ys h k
