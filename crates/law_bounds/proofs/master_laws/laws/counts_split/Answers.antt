use Rattle.law_bounds.proofs.master_laws.WholeCountsLemmas.{can_be_split}
use Rattle.law_bounds.proofs.master_laws.laws.counts_split.Goals as goal

pub returns : goal.returns
returns c = λ i cuts ws q listed value sound has. can_be_split i cuts ws q listed value sound has
