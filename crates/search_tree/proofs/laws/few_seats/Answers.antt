use Rattle.search_tree.proofs.TreeLaws.{few-seats}
use Rattle.search_tree.proofs.laws.few_seats.Goals as goal

pub returns : goal.returns
returns c = few-seats
