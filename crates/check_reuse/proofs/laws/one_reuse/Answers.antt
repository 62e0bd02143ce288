use Rattle.check_reuse.proofs.OneAnswer.{one-answer}
use Rattle.check_reuse.proofs.laws.one_reuse.Goals as goal

pub returns : goal.returns
returns c = λ i cert a b h k. one-answer i cert a b h k
