use Rattle.text_proof_pieces.proofs.PiecesKept.{cert_sound, cert_list}
use Rattle.text_proof_pieces.proofs.laws.accepted_pieces.Goals as goal

pub returns-clause-pieces : goal.returns-clause-pieces
returns-clause-pieces c = cert_list

pub returns-clause-sound : goal.returns-clause-sound
returns-clause-sound c = cert_sound
