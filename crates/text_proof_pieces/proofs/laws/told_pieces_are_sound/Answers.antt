use Rattle.text_proof_pieces.proofs.ToldKept.{text_sound}
use Rattle.text_proof_pieces.proofs.laws.told_pieces_are_sound.Goals as goal

pub returns : goal.returns
returns c = text_sound
