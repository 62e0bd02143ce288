use Rattle.text_proof_pieces.proofs.PiecesKept.{cert_sound}
use Rattle.text_certificates.proofs.read.read_cert.Goals as goal

pub returns-clause-sound : goal.returns-clause-sound
returns-clause-sound c = cert_sound c.args.instance.now c.args.text.now c.in_ok-cert.cert c.requires c.in_ok-cert.ensures
