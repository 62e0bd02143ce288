use Rattle.law_bounds.proofs.BaseCuts.{base-asks}
use Rattle.law_bounds.proofs.laws.base_cuts_ask_for_arcs.Goals as goal

pub returns : goal.returns
returns c = λ i sound busy. base-asks i sound busy
