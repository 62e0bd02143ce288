use Rattle.plan_fit.proofs.FitLemmas.{read_is_fit as law}
use Rattle.plan_fit.proofs.laws.read_is_fit.Goals as goal

pub returns : goal.returns
returns c = law
