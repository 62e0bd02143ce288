use Rattle.search_arc_counts.proofs.roster_split.BalancedLemmas.{split-balanced}
use Rattle.search_arc_counts.proofs.roster_split.laws.split_balanced.Goals as goal

pub returns : goal.returns
returns c = λ g listed value sound has b. split-balanced g listed sound has value b
