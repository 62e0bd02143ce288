use Rattle.text_proof_pieces.proofs.RefusedPieces.{text_refused}
use Rattle.text_proof_pieces.proofs.laws.refused_pieces.Goals as goal

pub returns : goal.returns
returns c = text_refused
