use Rattle.std.proofs.Common.{◌+◌, refl}
use Rattle.model_rosters.proofs.tree_laws.Splits.{split-least}
use Rattle.model_rosters.proofs.tree_laws.laws.split_by_first.Goals as goal

pub returns : goal.returns
returns c = λ g p r k i m n s x ss a b ha hb. split-least g p r k i m n (m + n) x ss refl s a b ha hb
