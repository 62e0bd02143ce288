use Rattle.law_bounds.proofs.near_laws.CompletedLemmas.{completed_solves}
use Rattle.law_bounds.proofs.near_laws.laws.completed_solves.Goals as goal

pub returns : goal.returns
returns c = completed_solves
