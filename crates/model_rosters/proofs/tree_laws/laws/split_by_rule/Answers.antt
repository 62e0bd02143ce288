use Rattle.model_rosters.proofs.tree_laws.Ends.{rule-least}
use Rattle.model_rosters.proofs.tree_laws.laws.split_by_rule.Goals as goal

pub returns : goal.returns
returns c = λ g p q x i l rule a at left stands some h. rule-least g p i l q x rule a at left stands some h
