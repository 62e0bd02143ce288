use Rattle.check_certificates.proofs.OneTree.{same_start}
use Rattle.check_certificates.proofs.laws.one_tree.Goals as goal

pub returns : goal.returns
returns c = λ p q xs ys e. same_start p q xs ys e
