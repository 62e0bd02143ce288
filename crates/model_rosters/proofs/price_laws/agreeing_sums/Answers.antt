use Rattle.model_rosters.proofs.AgreementLemmas.{tree_same}
use Rattle.model_rosters.proofs.price_laws.agreeing_sums.Goals as goal

pub returns : goal.returns
returns c = λ g p q s agree x t h. tree_same g p q s.rules agree x t h
