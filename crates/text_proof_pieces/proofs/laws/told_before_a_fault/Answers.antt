use Rattle.text_proof_pieces.proofs.ToldFronts.{told_front}
use Rattle.text_proof_pieces.proofs.laws.told_before_a_fault.Goals as goal

pub returns : goal.returns
returns c = told_front
