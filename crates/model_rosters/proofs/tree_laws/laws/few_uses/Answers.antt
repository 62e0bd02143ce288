use Rattle.model_rosters.proofs.tree_laws.Bounds.{few-steps}
use Rattle.model_rosters.proofs.tree_laws.laws.few_uses.Goals as goal

pub returns : goal.returns
returns c = λ g x i l t sound some h. few-steps g sound t x i l some h
