use Rattle.command_answers.specs.ProofFronts.{proof-alike}
use Rattle.command_answers.proofs.laws.proof_by_front.Goals as goal

pub returns : goal.returns
returns c = proof-alike
