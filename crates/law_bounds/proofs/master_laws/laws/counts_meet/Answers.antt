use Rattle.law_bounds.proofs.master_laws.WholeCountsLemmas.{meet_node}
use Rattle.law_bounds.proofs.master_laws.laws.counts_meet.Goals as goal

pub returns : goal.returns
returns c = λ i cuts ws q listed value ts sound has have. meet_node i cuts ws q listed value sound has ts have
